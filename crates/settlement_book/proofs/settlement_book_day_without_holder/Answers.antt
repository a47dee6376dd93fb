-- The length of the book, the questions of the book, then the query of a well-formed one.
use mathlib.Core.Path.{sym, ◌∙◌}
use Rattle.rules.proofs.BookLaws.{book-whole}
use Rattle.queries.proofs.Asks.{refused_not}
use Rattle.settlement_book.proofs.Answers.{day_no_book, asked_as, lists_asked}
use Rattle.settlement_book.proofs.settlement_book_day_without_holder.Goals as goal

pub settlement_book_day_without_holder_within-requires-clause-whole : goal.settlement_book_day_without_holder_within-requires-clause-whole
settlement_book_day_without_holder_within-requires-clause-whole c =
    (lists_asked _ _ c.in-Ok.ensures, (book-whole _ 0 (sym (asked_as _ c.in-Ok.ensures c.book_of.ensures))).0)

pub returns-in-Ok-clause-answers : goal.returns-in-Ok-clause-answers
returns-in-Ok-clause-answers c sized =
    c.settlement_book_day_without_holder_within.ensures (lists_asked _ _ c.in-Ok.ensures)
    (book-whole _ 0 (sym (asked_as _ c.in-Ok.ensures c.book_of.ensures))).0

pub returns-in-Err-clause-answers : goal.returns-in-Err-clause-answers
returns-in-Err-clause-answers c sized =
    day_no_book _ c.args.point _ (c.number-in-Err.ensures ∙ asked_as _ c.in-Err.ensures c.book_of.ensures)
    (λ z. refused_not c.in-Err.refusal (sym c.number-in-Err.ensures ∙ z)) c.args.day.now
