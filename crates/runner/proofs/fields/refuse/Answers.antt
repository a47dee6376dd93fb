-- The refusal is printed, and the run is over.
use Rattle.runner.proofs.ArmLaws.{arm_broken}
use Rattle.runner.proofs.fields.refuse.Goals as goal

pub returns : goal.returns
returns c t = rw (← c.number.ensures) (arm_broken _ _ t _ _ _ _ c.put_refused-written.ensures)
