-- The month, or a field that is not in its place.
use mathlib.Core.Path.{refl}
use Rattle.runner.specs.Stages.{start, is_more}
use Rattle.runner.proofs.FoundLaws.{not_more, start_else}
use Rattle.runner.proofs.ArmLaws.{place_is, waits, takes, arm_month}
use Rattle.runner.proofs.fields.take_month.Goals as goal

pub returns-in-More : goal.returns-in-More
unfolding is_more
returns-in-More c t = waits start _ _ _ _ c.read-found.ensures t _ c.args.from _ c.in-More.is refl

pub returns-in-Month : goal.returns-in-Month
unfolding is_more
returns-in-Month c t =
    let l = c.read-found in
    takes start _ _ _ _ l.ensures t _ _ _ c.in-Month.is refl
    (arm_month _ _ _ _ _ _ _ t _ _ _ c.named_book.ensures (place_is _ _ _ _ _ l.ensures _ c.in-Month.is))

pub returns-in_default : goal.returns-in_default
returns-in_default c t =
    let d = c.in_default in
    takes start _ _ _ _ c.read-found.ensures t _ _ _ refl (not_more _ d.not-More)
    (rw (start_else _ _ _ d.not-More d.not-Month) (c.refuse.ensures t))
