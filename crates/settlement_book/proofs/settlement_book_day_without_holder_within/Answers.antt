-- The answer of the query, said in numbers.
use mathlib.Core.Path.{sym, ap, subst, ◌∙◌}
use Rattle.rules.specs.declared.Book.{Book}
use Rattle.rules.specs.Lent.{Lists, world_in, lend_rows}
use Rattle.rules.specs.Whole.{Whole}
use Rattle.rules.specs.Queries.{day_query}
use Rattle.settlement_book.specs.Numbers.{book_in}
use Rattle.settlement_book.proofs.Answers.{day_in_numbers}
use Rattle.settlement_book.proofs.settlement_book_day_without_holder_within.Goals as goal
use Rattle.settlement_book.proofs.settlement_book_day_without_holder_within.Goals.{After-book_of, Start}

abbrev lent : Start → Lists → Lists
lent s o = lend_rows s.args.links.now s.args.holders.now s.args.states.now o

held_whole : (c : After-book_of) (o : Lists) →
    let t = lend_rows c.args.links.now c.args.holders.now c.args.states.now o in
    Whole (world_in (book_in c.args.book.now) t) → Whole (world_in c.book_of.result t)
held_whole c o h =
    subst (λ (b : Book). Whole (world_in b (lend_rows c.args.links.now c.args.holders.now c.args.states.now o))) (sym c.book_of.ensures) h

pub day_without_holder-requires : goal.day_without_holder-requires
day_without_holder-requires c =
    (c.requires.whole.0, held_whole c c.requires.whole.0 c.requires.whole.1)

pub returns : goal.returns
returns c o whole =
    let t = c.put_day.ensures in
    let w = world_in (book_in c.args.book.now) (lent (goal.at.returns c).Start o) in
    day_in_numbers w _ _
    (c.day_without_holder.ensures o (held_whole (goal.at.returns c).After-book_of o whole)
    ∙ ap (λ (b : Book). day_query (world_in b (lent (goal.at.returns c).Start o)) c.args.point) c.book_of.ensures)
    _ _ _ t.0 t.1
