-- The opening's promise gives the world that the run starts from: the opened book, or what was lent.
use mathlib.Core.Path.{sym, ap, ◌∙◌}
use native.Mathlib.Omega.{arith}
use Rattle.std.proofs.lemmas.Result.{err_from_is_err_and}
use Rattle.rules.specs.Answers.{number_of, refusal_number}
use Rattle.validation.proofs.Next.{refuses}
use Rattle.history.proofs.Reached.{opening-refused, opened_and_run}
use Rattle.history.proofs.open_and_run.Goals as goal

pub returns-in_err-open_book-clause-runs : goal.returns-in_err-open_book-clause-runs
returns-in_err-open_book-clause-runs c =
    let b = c.open_book.ensures in
    let p = err_from_is_err_and c.from_residual.result c.from_residual.ensures.1 in
    let n = ap refusal_number p.2 ∙ sym (ap number_of c.in_err-open_book.was) ∙ b.number in
    rw p.1 (opening-refused _ _ b.world _ (refusal_number p.0) n (λ z. let r = refuses p.0 in omega arith) _ _)

pub returns-clause-runs : goal.returns-clause-runs
returns-clause-runs c =
    let b = c.open_book.ensures in
    opened_and_run _ _ b.world _ (sym b.number ∙ ap number_of c.in_ok-open_book.was) _ _ _ _ _ _ c.run.ensures.followed
