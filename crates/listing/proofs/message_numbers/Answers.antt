-- The front of the list of numbers, as long as the room for records asks, is lent on.
use mathlib.Core.Path.{ap}
use Prim.Native.Nat.{◌*◌}
use Rattle.rules.specs.Sizes.{record_size}
use Rattle.listing.proofs.Rooms.{numbered}
use Rattle.listing.proofs.message_numbers.Goals as goal

pub returns-clause-numbered : goal.returns-clause-numbered
returns-clause-numbered c =
    numbered _ _ _ _ _ (c.min-end.result * record_size) c.args.numbers.now _ (ap (λ n. n * record_size) c.min-end.ensures) c.requires
    (search)
    c.message.ensures.replied
