-- `packed::byte_of` meets its contract: two half-bytes of at most 15 make a byte.
use Prim.Native.Nat.{◌≤◌}
use Rattle.rules.proofs.Packed.{half_low}
use native.Mathlib.Omega.{arith}
use Rattle.packed.proofs.byte_of.Goals as goal
use Rattle.packed.proofs.byte_of.Goals.{After-half_of-lower}

-- both half-bytes
halves : (c : After-half_of-lower) → (c.half_of-upper.result ≤ 15) × (c.half_of-lower.result ≤ 15)
halves c =
    let a = c.args in
    let p = c.requires.0 in (
      rw c.half_of-upper.ensures (half_low a.size a.sign _ p),
      rw c.half_of-lower.ensures (half_low a.size a.sign _ p),
    )

pub overflow_mul-result : goal.overflow_mul-result
overflow_mul-result c = omega (arith, halves c)

pub overflow_add-result : goal.overflow_add-result
overflow_add-result c = omega (arith, halves c)

pub overflow_cast-result : goal.overflow_cast-result
overflow_cast-result c = omega (arith, halves c)
