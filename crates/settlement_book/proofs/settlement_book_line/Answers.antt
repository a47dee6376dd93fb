-- The lengths of book and line, the questions of the book, then the query of a well-formed one.
use mathlib.Core.Path.{sym}
use Rattle.rules.proofs.BookLaws.{book-whole}
use Rattle.settlement_book.proofs.Answers.{line-no-book, asked_as, lists_asked}
use Rattle.settlement_book.proofs.settlement_book_line.Goals as goal

pub settlement_book_line_within-requires-clause-whole : goal.settlement_book_line_within-requires-clause-whole
settlement_book_line_within-requires-clause-whole c =
    (lists_asked _ _ c.in-Ok.ensures, (book-whole _ 0 (sym (asked_as _ c.in-Ok.ensures c.book_of.ensures))).0)

pub returns-in-Ok-clause-answers : goal.returns-in-Ok-clause-answers
returns-in-Ok-clause-answers c sized =
    c.settlement_book_line_within.ensures (lists_asked _ _ c.in-Ok.ensures)
    (book-whole _ 0 (sym (asked_as _ c.in-Ok.ensures c.book_of.ensures))).0

pub returns-in-Err-clause-answers : goal.returns-in-Err-clause-answers
returns-in-Err-clause-answers c sized =
    line-no-book _ c.args.supplier c.args.element c.in-Err.refusal (asked_as _ c.in-Err.ensures c.book_of.ensures) _
    c.number-in-Err.ensures c.args.line.now
