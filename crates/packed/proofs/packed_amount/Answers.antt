-- `packed::packed_amount` meets its contract: fifteen digits fit, and the sign decides.
use mathlib.Core.Path.{sym, ap, ◌∙◌}
use Prim.Native.Nat.{ℕ, ◌<◌, ◌^◌}
use lib.IntN.{pos, neg_ℤ}
use Rattle.integers.proofs.Integers.{pos-fits, neg_fits, cast_is}
use Rattle.rules.specs.Packed.{digit_count}
use Rattle.rules.proofs.Packed.{packed_parts}
use Rattle.packed.proofs.Steps.{packed-small, amount-below, amount_other, negated}
use native.Mathlib.Omega.{arith}
use Rattle.packed.proofs.packed_amount.Goals as goal
use Rattle.packed.proofs.packed_amount.Goals.{After-digits_in-size}

size_small : (c : After-digits_in-size) → c.digits_in-size.result < 10 ^ digit_count
size_small c = rw c.digits_in-size.ensures (packed-small c.args.bytes.now c.requires)

pub digits_in-size-requires : goal.digits_in-size-requires
digits_in-size-requires c =
    let p = packed_parts c.args.bytes.now c.requires in
    (p.eight, p.digits)

pub overflow_cast-size : goal.overflow_cast-size
overflow_cast-size c = pos-fits _ (omega (arith, size_small c))

pub half_in-requires : goal.half_in-requires
half_in-requires c =
    omega (arith, (packed_parts c.args.bytes.now c.requires).eight)

pub overflow_sub-result : goal.overflow_sub-result
overflow_sub-result c =
    let l = size_small (goal.at.overflow_sub-result c).After-digits_in-size in
    rw (cast_is c.digits_in-size.result (omega arith)) (neg_fits (pos c.digits_in-size.result) (omega arith))

pub returns-then-half_in-eq-SIGN_BELOW : goal.returns-then-half_in-eq-SIGN_BELOW
returns-then-half_in-eq-SIGN_BELOW c =
    let l = size_small (goal.at.returns-then-half_in-eq-SIGN_BELOW c).After-digits_in-size in
    negated c.digits_in-size.result (omega arith) ∙ ap (λ (n : ℕ). neg_ℤ (pos n)) c.digits_in-size.ensures
    ∙ amount-below c.args.bytes.now (sym c.half_in.ensures ∙ c.if-half_in-eq-SIGN_BELOW.true)

pub returns-else-half_in-eq-SIGN_BELOW : goal.returns-else-half_in-eq-SIGN_BELOW
returns-else-half_in-eq-SIGN_BELOW c =
    let l = size_small (goal.at.returns-else-half_in-eq-SIGN_BELOW c).After-digits_in-size in
    cast_is c.digits_in-size.result (omega arith) ∙ ap pos c.digits_in-size.ensures
    ∙ amount_other c.args.bytes.now (λ e. c.if-half_in-eq-SIGN_BELOW.false (c.half_in.ensures ∙ e))
