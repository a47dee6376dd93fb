-- `put_prices` meets its contract: the first k prices are those of the value.
use Rattle.std.proofs.Common.{◌≡◌, take}
use Rattle.rules.specs.Basics.{list_to}
use Rattle.file.specs.Element.{price_at}
use Rattle.file.proofs.fields.put_prices.Given as goal

abbrev pub invariant-loop-k : goal.invariant-loop-k
invariant-loop-k l = take l.k l.prices ≡ list_to (price_at l.value) l.k
