-- `put_prices` meets its contract: each turn puts one price more.
use Rattle.std.proofs.Common.{◌<◌, length, add-one, arith}
use lib.Seq.{take-suc-set}
use Rattle.rules.specs.Basics.{list_to}
use Rattle.integers.proofs.Integers.{back}
use Rattle.file.proofs.fields.put_prices.Goals as goal

pub loop-k-preserved : goal.loop-k-preserved
unfolding list_to
loop-k-preserved c =
    let l = c.loop-k in
    let less : l.k < length l.prices = omega arith in
    rw (add-one l.k, take-suc-set l.prices l.k _ less, l.invariant, back _ c.price_at.type_inv, c.price_at.ensures)
