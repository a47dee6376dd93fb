-- The answer of the query, said as a number.
use mathlib.Core.Path.{sym, ap, subst, ◌∙◌}
use lib.ListN.{length}
use Rattle.rules.specs.declared.Book.{Book}
use Rattle.rules.specs.Lent.{Lists, world_in, lend_data, lend_lines}
use Rattle.rules.specs.Whole.{Whole}
use Rattle.rules.specs.Packed.{sum_number, sum_written}
use Rattle.settlement_book.specs.Numbers.{book_in}
use Rattle.settlement_book.proofs.Answers.{packed_in}
use Rattle.settlement_book.proofs.settlement_book_packed_sum_within.Goals as goal
use Rattle.settlement_book.proofs.settlement_book_packed_sum_within.Goals.{After-book_of, Start}

abbrev lent : Start → Lists → Lists
lent s o = lend_data s.args.element_data.now (lend_lines s.args.lines.now o)

held_whole : (c : After-book_of) (o : Lists) →
    let t = lend_data c.args.element_data.now (lend_lines c.args.lines.now o) in
    Whole (world_in (book_in c.args.book.now) t) → Whole (world_in c.book_of.result t)
held_whole c o h =
    subst (λ (b : Book). Whole (world_in b (lend_data c.args.element_data.now (lend_lines c.args.lines.now o)))) (sym c.book_of.ensures) h

pub packed_sum-requires : goal.packed_sum-requires
packed_sum-requires c =
    (c.requires.whole.0, held_whole (goal.at.packed_sum-requires c).After-book_of c.requires.whole.0 c.requires.whole.1)

pub returns : goal.returns
returns c o whole =
    let a = c.args in
    let e = c.book_of.ensures in
    let h = c.packed_sum.ensures o (held_whole (goal.at.returns c).After-book_of o whole) in
    packed_in (world_in (book_in a.book.now) (lent (goal.at.returns c).Start o)) a.supplier a.owner _ a.bytes.now _
    (c.number.ensures ∙ h.0
    ∙ ap (λ (b : Book). sum_number (world_in b (lent (goal.at.returns c).Start o)) a.supplier a.owner (length a.bytes.now)) e)
    (h.1 ∙ ap (λ (b : Book). sum_written (world_in b (lent (goal.at.returns c).Start o)) a.supplier a.owner a.bytes.now) e)
