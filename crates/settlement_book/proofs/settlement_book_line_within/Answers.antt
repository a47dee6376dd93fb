-- The answer of the query, said in numbers.
use mathlib.Core.Path.{sym, subst}
use Rattle.rules.specs.declared.Book.{Book}
use Rattle.rules.specs.Lent.{Lists, world_in, lend_lines}
use Rattle.rules.specs.Whole.{Whole}
use Rattle.queries.specs.Promises.{LineAnswered}
use Rattle.settlement_book.specs.Numbers.{book_in}
use Rattle.settlement_book.proofs.Answers.{line_small, line-in-numbers}
use Rattle.settlement_book.proofs.settlement_book_line_within.Goals as goal
use Rattle.settlement_book.proofs.settlement_book_line_within.Goals.{After-book_of, Start}

abbrev lent : Start → Lists → Lists
lent s o = lend_lines s.args.lines.now o

held_whole : (c : After-book_of) (o : Lists) →
    let t = lend_lines c.args.lines.now o in
    Whole (world_in (book_in c.args.book.now) t) → Whole (world_in c.book_of.result t)
held_whole c o h =
    subst (λ (b : Book). Whole (world_in b (lend_lines c.args.lines.now o))) (sym c.book_of.ensures) h

pub line-requires : goal.line-requires
line-requires c =
    (c.requires.whole.0, held_whole c c.requires.whole.0 c.requires.whole.1)

pub put_line-requires : goal.put_line-requires
put_line-requires c = (
  c.requires.book_len.1,
  line_small _ _ _ _
      (c.line.ensures c.requires.whole.0 (held_whole (goal.at.put_line-requires c).After-book_of c.requires.whole.0 c.requires.whole.1)),
)

pub returns : goal.returns
returns c o whole =
    let t = c.put_line.ensures in
    let a = c.line.ensures o (held_whole (goal.at.returns c).After-book_of o whole) in
    line-in-numbers (world_in (book_in c.args.book.now) (lent (goal.at.returns c).Start o)) _ _ _
    (subst (λ (b : Book). LineAnswered (world_in b (lent (goal.at.returns c).Start o)) c.args.supplier c.args.element c.line.result)
    c.book_of.ensures a)
    _ t.0 _ _ t.1
