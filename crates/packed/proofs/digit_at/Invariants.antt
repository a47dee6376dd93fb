-- `packed::digit_at` meets its contract: what is left is the number without the digits passed so far.
use Rattle.std.proofs.Common.{◌≡◌, ◌/◌, ◌^◌}
use Rattle.packed.proofs.digit_at.Given as goal

abbrev pub invariant-loop : goal.invariant-loop
invariant-loop l = l.rest ≡ l.number / 10 ^ l.counter
