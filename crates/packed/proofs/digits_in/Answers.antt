-- `packed::digits_in` meets its contract: each digit is at most 9, so that one more fits.
use Rattle.std.proofs.Common.{◌<◌, ◌≤◌, ◌*◌, ◌^◌, arith}
use Rattle.rules.specs.Packed.{digit_count, half_in}
use Rattle.packed.proofs.Steps.{digits_none, digits_more, digits-below}
use Rattle.packed.proofs.digits_in.Goals as goal
use Rattle.packed.proofs.digits_in.Goals.{In-loop-place}

small : (c : In-loop-place) → (c.loop-place.number * 10 < 10 ^ digit_count) × (half_in c.args.bytes.now c.loop-place.place ≤ 9)
small c =
    let l = c.loop-place in
    let d = digits-below c.args.bytes.now c.requires.1 l.place (omega arith) in
    (omega (arith, l.invariant), d.1)

pub loop-place-init : goal.loop-place-init
loop-place-init c = digits_none _

pub overflow_mul-number : goal.overflow_mul-number
overflow_mul-number c = omega (arith, small c)

pub overflow_add-number : goal.overflow_add-number
overflow_add-number c = omega (arith, small (goal.at.overflow_add-number c).In-loop-place, c.half_in.ensures)

pub loop-place-preserved : goal.loop-place-preserved
loop-place-preserved c = rw (digits_more c.args.bytes.now c.loop-place.place, ← c.loop-place.invariant, ← c.half_in.ensures)
