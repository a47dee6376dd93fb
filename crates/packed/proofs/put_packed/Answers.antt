-- `packed::put_packed` meets its contract: all eight bytes are written.
use Rattle.std.proofs.Common.{arith}
use Rattle.packed.proofs.Steps.{whole-packed}
use Rattle.packed.proofs.put_packed.Goals as goal

pub returns : goal.returns
returns c =
    whole-packed c.args.size c.args.sign c.loop-place.bytes (omega arith) (λ k l. c.loop-place.invariant k (omega arith))
