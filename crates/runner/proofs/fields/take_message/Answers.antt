-- A message; the end; or a field that is not in its place.
use mathlib.Core.Path.{refl}
use Rattle.runner.specs.Stages.{messages, is_more, move_on}
use Rattle.runner.specs.Parts.{lists_in, fronts_world}
use Rattle.runner.proofs.FoundLaws.{not_more, messages_else}
use Rattle.runner.proofs.ArmLaws.{place_is, waits, takes, arm_over, arm_message}
use Rattle.runner.proofs.fields.take_message.Goals as goal

pub returns-in-More-clause-steps : goal.returns-in-More-clause-steps
unfolding is_more
returns-in-More-clause-steps c =
    let t = lists_in c.args.store.now in
    waits (messages (fronts_world c.args.book t) c.args.number) _ _ _ _ c.read-found.ensures t _ c.args.from _ c.in-More.is refl

pub returns-in-Message-clause-steps : goal.returns-in-Message-clause-steps
unfolding is_more
returns-in-Message-clause-steps c =
    let a = c.args in
    let t = lists_in a.store.now in
    let l = c.read-found in
    takes (messages (fronts_world a.book t) a.number) _ _ _ _ l.ensures t _ _ _ c.in-Message.is refl
    (arm_message a.book t _ _ _ _ _ c.tell-reply.ensures a.at _ a.number a.s.now _ _ a.from _ c.put_reply-written.ensures
    (place_is _ _ _ _ _ l.ensures _ c.in-Message.is))

pub returns-in-End-clause-steps : goal.returns-in-End-clause-steps
unfolding is_more move_on
returns-in-End-clause-steps c =
    let t = lists_in c.args.store.now in
    takes (messages (fronts_world c.args.book t) c.args.number) _ _ _ _ c.read-found.ensures t _ _ _ c.in-End.is refl
    (arm_over c.args.at _ _ _)

pub returns-in_default-clause-steps : goal.returns-in_default-clause-steps
returns-in_default-clause-steps c =
    let d = c.in_default in
    let t = lists_in c.args.store.now in
    takes (messages (fronts_world c.args.book t) c.args.number) _ _ _ _ c.read-found.ensures t _ _ _ refl (not_more _ d.not-More)
    (rw (messages_else _ _ _ c.args.number _ d.not-More d.not-Message d.not-End) (c.refuse.ensures t))
