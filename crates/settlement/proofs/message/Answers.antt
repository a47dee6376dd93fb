-- Question 6, then 7 to 16, then 17 and 18 by the kind of the message; each way ends in the rules' answer and step.
use mathlib.Core.Path.{◌≡◌, refl, sym, ap, subst, ◌∙◌}
use mathlib.Core.Logic.{◌≢◌}
use Rattle.std.specs.Prelude.{Some, None, Result}
use Rattle.std.specs.Result.{result_ok}
use Rattle.rules.specs.Answers.{number_of, refusal_number}
use Rattle.rules.specs.Messages.{understood}
use Rattle.rules.specs.Whole.{Whole}
use Rattle.rules.specs.Lent.{open_lists, open_world}
use Rattle.rules.specs.World.{World}
use Rattle.validation.specs.Decided.{decided}
use Rattle.validation.proofs.Next.{refuses}
use Rattle.validation.proofs.Whole.{whole_readable, in_range}
use Rattle.settlement.specs.Replies.{count_of}
use Rattle.settlement.proofs.Stepping.{lent_is, no_round, out_of_range, refused_as}
use Rattle.settlement.proofs.Stepping.{replied_refused, replied_applied, replied_sent, replied_whole}
use Rattle.settlement.proofs.Stepping.{answer_none, answer-refused, passed_ready}
use Rattle.ledger.proofs.RoundLaws.{settled}
use native.Mathlib.Omega.{arith}
use Rattle.settlement.proofs.message.Goals as goal
use Rattle.settlement.proofs.message.Goals.{In_ok-message, After-decide, In_ok-decide}

understood-is : (c : In_ok-message) → understood c.args.opened.now.book.suppliers c.args.fields ≡ Some c.in_ok-message.message
understood-is c = sym c.understand.ensures ∙ c.ok_or.ensures.ok_part ∙ ap result_ok c.in_ok-message.was

pub returns-in_err-message-clause-replied : goal.returns-in_err-message-clause-replied
returns-in_err-message-clause-replied c =
    let w = open_world c.args.opened.now in
    let none : c.understand.result ≡ None = c.ok_or.ensures.ok_part ∙ ap result_ok c.in_err-message.was in
    let e = refused_as c.from_residual.result _ c.from_residual.ensures.1
    ∙ ap Result.Err (out_of_range none c.ok_or.ensures.value c.in_err-message.was) in
    replied_refused w w c.args.fields _ c.args.records.now _ 6 (answer_none w c.requires c.args.fields _ (sym c.understand.ensures ∙ none))
    (λ z. omega arith) (ap number_of e) refl refl (ap count_of e)

pub decide-requires-clause-readable : goal.decide-requires-clause-readable
decide-requires-clause-readable c =
    whole_readable c.lent.result
    (subst Whole (sym (lent_is c.lent.result c.args.opened.now c.lent.ensures.book c.lent.ensures.lists)) c.requires)

pub decide-requires-clause-in_range : goal.decide-requires-clause-in_range
decide-requires-clause-in_range c =
    let u = understood-is (goal.at.decide-requires-clause-in_range c).In_ok-message in
    in_range _ c.args.fields _ (rw c.lent.ensures.book u)

-- what questions 7 to 16 answer
decided-is : (c : After-decide) → number_of c.decide.result
    ≡ decided (open_world c.args.opened.now).opening (open_world c.args.opened.now).position.tables c.in_ok-message.message 0
decided-is c =
    c.decide.ensures
    ∙ ap (λ (w : World). decided w.opening w.position.tables c.in_ok-message.message 0)
    (lent_is c.lent.result c.args.opened.now c.lent.ensures.book c.lent.ensures.lists)

pub returns-in_err-decide-clause-replied : goal.returns-in_err-decide-clause-replied
returns-in_err-decide-clause-replied c =
    let w = open_world c.args.opened.now in
    let x = c.in_err-decide.field-0.0 in
    let u = understood-is (goal.at.returns-in_err-decide-clause-replied c).In_ok-message in
    let d = sym (decided-is (goal.at.returns-in_err-decide-clause-replied c).After-decide) ∙ ap number_of c.in_err-decide.was in
    let some : refusal_number x ≢ 0 = λ z. let r = refuses x in omega arith in
    let e = refused_as c.from_residual-in_err-decide.result _ c.from_residual-in_err-decide.ensures.1 in
    replied_refused w w c.args.fields _ c.args.records.now _ (refusal_number x)
    (answer-refused w c.requires c.args.fields _ _ u (λ z. some (sym d ∙ z)) ∙ d) some (ap number_of e) refl refl (ap count_of e)

decided_none : (c : In_ok-decide) → decided (open_world c.args.opened.now).opening (open_world c.args.opened.now).position.tables
    c.in_ok-message.message 0 ≡ 0
decided_none c = sym (decided-is (goal.at.In_ok-decide c).After-decide) ∙ ap number_of c.in_ok-decide.was

pub send-requires : goal.send-requires
send-requires c = let b = c.args.opened.now in settled b.book (open_lists b) c.requires

pub apply-requires : goal.apply-requires
apply-requires c =
    let w = open_world c.args.opened.now in
    let u = understood-is (goal.at.apply-requires c).In_ok-message in
    let d = decided_none (goal.at.apply-requires c).In_ok-decide in
    record {
      ready_in = record { whole = c.requires; ready = passed_ready w c.requires c.args.fields 0 _ u d };
      body_value = no_round _ c.in_default.not-Round;
    }

pub returns-in_err-apply-in_default : goal.returns-in_err-apply-in_default
returns-in_err-apply-in_default c =
    let u = understood-is (goal.at.returns-in_err-apply-in_default c).In_ok-message in
    let d = decided_none (goal.at.returns-in_err-apply-in_default c).In_ok-decide in
    let e = refused_as c.from_residual-in_err-apply-in_default.result _ c.from_residual-in_err-apply-in_default.ensures.1 in
    let g = replied_applied (open_world c.args.opened.now) (open_world c.apply.new.opened) c.requires c.args.fields _
    c.args.records.now _ u d
    (no_round _ c.in_default.not-Round) _ c.apply.ensures.applied (ap number_of e ∙ sym (ap number_of c.in_err-apply-in_default.was))
    (ap count_of e) in
    record { same = c.apply.ensures.same; replied = g; whole = replied_whole c.requires g }

pub returns-in-Round : goal.returns-in-Round
returns-in-Round c =
    let u = understood-is (goal.at.returns-in-Round c).In_ok-message in
    let d = decided_none (goal.at.returns-in-Round c).In_ok-decide in
    let g = replied_sent (open_world c.args.opened.now) c.requires (open_world c.send.new.opened) c.args.fields _ c.args.records.now _ _ u d
    c.in-Round.is c.send.ensures.sending in
    record { same = c.send.ensures.same; replied = g; whole = replied_whole c.requires g }

pub returns-in_ok-apply-in_default : goal.returns-in_ok-apply-in_default
returns-in_ok-apply-in_default c =
    let u = understood-is (goal.at.returns-in_ok-apply-in_default c).In_ok-message in
    let d = decided_none (goal.at.returns-in_ok-apply-in_default c).In_ok-decide in
    let g = replied_applied (open_world c.args.opened.now) (open_world c.apply.new.opened) c.requires c.args.fields (Result.Ok 0)
    c.args.records.now _ u d (no_round _ c.in_default.not-Round) _ c.apply.ensures.applied
    (sym (ap number_of c.in_ok-apply-in_default.was)) refl in
    record { same = c.apply.ensures.same; replied = g; whole = replied_whole c.requires g }
