-- `packed::put_packed` meets its contract: the bytes before the place are written.
use Rattle.std.proofs.Common.{◌≡◌, ◌<◌, ℕ, get_or}
use Rattle.rules.specs.Packed.{packed_byte}
use Rattle.packed.proofs.put_packed.Given as goal

abbrev pub invariant-loop-place : goal.invariant-loop-place
invariant-loop-place l = (k : ℕ) → k < l.place → get_or l.bytes k 0 ≡ packed_byte l.size l.sign k
