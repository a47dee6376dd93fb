-- `packed::digits_in` meets its contract: the number of the digits passed so far.
use Rattle.std.proofs.Common.{◌≡◌}
use Rattle.rules.specs.Packed.{digits_in}
use Rattle.packed.proofs.digits_in.Given as goal

abbrev pub invariant-loop-place : goal.invariant-loop-place
invariant-loop-place l = l.number ≡ digits_in l.bytes l.place
