-- Question 5 is asked where questions 2 to 4 have said nothing.
use Rattle.std.proofs.Common.{arith, sym}
use Rattle.std.proofs.lemmas.Grind.{common_steps}
use Rattle.rules.specs.Effects.{ask, ask_book}
use Rattle.rules.specs.Opening.{opening_answer}
use Rattle.rules.specs.Lent.{lists_of}
use Rattle.validation.proofs.Next.{refuses}
use Rattle.settlement_book.proofs.Measures.{measured}
use Rattle.settlement_book.proofs.questions.check_book.Goals as goal

pub check_opening-requires : goal.check_opening-requires
check_opening-requires c = (lists_of c.args.lent.now, sym c.of.ensures)

pub is_right-requires : goal.is_right-requires
is_right-requires c =
    measured c.args.lent.now (sym (c.in_ok-check_opening.ensures (lists_of c.args.lent.now) (sym c.of.ensures)))

pub returns-in_err-check_opening : goal.returns-in_err-check_opening
unfolding ask ask_book opening_answer
returns-in_err-check_opening c =
    let e = c.in_err-check_opening.ensures (lists_of c.args.lent.now) (sym c.of.ensures) in
    let r = refuses c.in_err-check_opening.field-0.0 in
    grind (arith, common_steps)

pub returns : goal.returns
unfolding ask ask_book opening_answer
returns c =
    let e = c.in_ok-check_opening.ensures (lists_of c.args.lent.now) (sym c.of.ensures) in
    grind (arith, common_steps)
