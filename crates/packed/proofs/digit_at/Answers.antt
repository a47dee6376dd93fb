-- `packed::digit_at` meets its contract: one digit more goes in a turn.
use Rattle.std.proofs.Common.{◌≡◌, ◌∙◌, ◌/◌, ◌%◌, ap, arith}
use Rattle.rules.specs.Packed.{digit_at}
use Rattle.packed.proofs.Steps.{tenth}
use Rattle.packed.proofs.digit_at.Goals as goal

pub loop-preserved : goal.loop-preserved
loop-preserved c = ap (λ n. n / 10) c.loop.invariant ∙ tenth c.args.number c.loop.counter

pub returns : goal.returns
unfolding digit_at
returns c =
    let e : c.loop.counter ≡ c.args.place = omega arith in
    ap (λ n. n % 10) (rw e at c.loop.invariant)
