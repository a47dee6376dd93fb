-- The questions of the book, then the message of a well-formed one.
use mathlib.Core.Path.{◌≡◌, sym, ap, ◌∙◌}
use Rattle.std.proofs.lemmas.Result.{err_from_is_err_and}
use Rattle.rules.specs.World.{World}
use Rattle.rules.specs.Effects.{ask_book}
use Rattle.rules.specs.Lent.{lent_world, open_world}
use Rattle.rules.proofs.BookLaws.{book-whole}
use Rattle.settlement_book.proofs.Answers.{lent-open, replied-no-book}
use Rattle.settlement_book.proofs.message.Goals as goal
use Rattle.settlement_book.proofs.message.Goals.{After-lent}

-- the questions are asked of the book that is open
lent_is : (c : After-lent) → ask_book (lent_world c.lent.result) 0 ≡ ask_book (open_world c.args.opened.now) 0
lent_is c = ap (λ (w : World). ask_book w 0) (lent-open c.lent.result c.args.opened.now c.lent.ensures.book c.lent.ensures.lists)

pub returns-in_err-check_book-clause-replied : goal.returns-in_err-check_book-clause-replied
returns-in_err-check_book-clause-replied c =
    let r = err_from_is_err_and c.from_residual.result c.from_residual.ensures.1 in
    rw (r.1, r.2) (replied-no-book (open_world c.args.opened.now) c.args.fields c.in_err-check_book.field-0.0 c.args.records.now
    (c.in_err-check_book.ensures ∙ lent_is (goal.at.returns-in_err-check_book-clause-replied c).After-lent))

pub message-requires : goal.message-requires
message-requires c =
    (book-whole _ 0 (sym (lent_is (goal.at.message-requires c).After-lent) ∙ sym c.in_ok-check_book.ensures)).0
