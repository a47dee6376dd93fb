-- The run begins at its start.
use mathlib.Core.Path.{refl}
use Rattle.settle.proofs.begin_session.Goals as goal

pub returns : goal.returns
returns c = record { progress = c.begin.ensures; held = refl; next = refl }
