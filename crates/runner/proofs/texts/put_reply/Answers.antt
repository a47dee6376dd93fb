-- A message without records prints nothing.
use mathlib.Core.Path.{◌≡◌}
use native.Mathlib.Omega.{arith}
use Rattle.file.proofs.PlacedLaws.{loosened}
use Rattle.runner.proofs.TextLaws.{no_lines}
use Rattle.runner.proofs.texts.put_reply.Goals as goal

pub returns-in-Ok-eq0 : goal.returns-in-Ok-eq0
returns-in-Ok-eq0 c = let z : c.in-Ok-eq0.field-0 ≡ 0 = omega arith in rw (c.in-Ok-eq0.is, z) (loosened (omega arith) (no_lines
    c.args.records.now c.args.out.now c.args.from))
