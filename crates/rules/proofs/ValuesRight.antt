-- Dated values that question 5 passes stay so, over the size.
use Prim.Native.Nat.{ℕ, suc, ◌/◌, ◌≤◌, ◌<◌}
use mathlib.Core.Path.{◌≡◌, refl}
use mathlib.Core.Bool.{Bool, true, ◌&&◌}
use Rattle.std.specs.Prelude.{Some}
use mathlib.Core.List.{List, [], ◌∷◌}
use lib.Dec.{ltb, eqb}
use borrow.Author.Tests.{eqb-true, le-leb, lt-ltb, ltb-true}
use native.Mathlib.Omega.{arith}
use native.Mathlib.Nat.{le_refl, le_trans, le-div_iff_mul-le, div-mul-le_self}
use Rattle.rules.specs.Sizes.{end_of_days}
use Rattle.rules.specs.Rows.{pack_value, value_point, value_first, value_of, recorded_on, record_row}
use Rattle.rules.specs.Basics.{within, chained, all_in}
use Rattle.rules.specs.World.{Opening}
use Rattle.rules.specs.WellFormed.{value_right, earlier}
use Rattle.rules.proofs.Tests.{tests, cases, both}
use Rattle.rules.proofs.Ranges.{within-high}
use Rattle.rules.proofs.Words.{point-value, first-value, value_pack}
use Rattle.rules.proofs.Clauses.{dated, recorded_nil, recorded_cons, record_nil, record_cons}

module _ (size : ℕ) (pos : 0 < size) where
  div_le_div : {a b : ℕ} → a ≤ b → a / size ≤ b / size
  div_le_div {a} {b} h = (le-div_iff_mul-le {k = size} {x = a / size} {y = b} pos).1 (le_trans (div-mul-le_self a size) h)

  data Rise : ℕ → List ℕ → Type 0 where
    done : {k : ℕ} → Rise k []
    next : {k r : ℕ} {rs : List ℕ} → k ≤ r / size → Rise (suc (r / size)) rs → Rise k (r ∷ rs)

  lower : {j k : ℕ} {rs : List ℕ} → j ≤ k → Rise k rs → Rise j rs
  lower h done = done
  lower {j} h (next {r = r} i m) = let z : j ≤ r / size = omega arith in next z m

  rise_of : (r : ℕ) (rs : List ℕ) → chained (earlier size) (r ∷ rs) ≡ true → Rise (r / size) (r ∷ rs)
  unfolding chained earlier
  rise_of r [] c = next (le_refl _) done
  rise_of r (s ∷ rs) c = let k = both (earlier size r s) _ c in next (le_refl _) (lower (ltb-true _ _ k.0) (rise_of s rs k.1))

  rise_rows : (rs : List ℕ) → chained (earlier size) rs ≡ true → Rise 0 rs
  rise_rows [] c = done
  rise_rows (r ∷ rs) c = lower {j = 0} {k = r / size} (omega arith) (rise_of r rs c)

  rise_chained : {k : ℕ} {rs : List ℕ} → Rise k rs → chained (earlier size) rs ≡ true
  unfolding chained earlier
  rise_chained done = refl
  rise_chained (next i done) = refl
  rise_chained (next {r = r} i (next {r = s} i' m)) = rw (lt-ltb (r / size) (s / size) i', rise_chained (next i' m))

  rise_record : (w : ℕ) {k : ℕ} {rs : List ℕ} → k ≤ w / size → Rise k rs → Rise k (record_row size w rs)
  rise_record w h done = rw record_nil (next h done)
  rise_record w {k} h (next {r = x} i m) = simp record_cons (cases (eqb (x / size) (w / size))
      (λ t. simp t (next {r = w} h (rw (eqb-true (x / size) (w / size) t) at m)))
      (λ t. simp t (cases (ltb w x)
      (λ u. let d : w / size ≤ x / size = div_le_div {a = w} {b = x} (omega (arith, tests)) in
      simp u (next {r = w} h (next {k = suc (w / size)} {r = x} (omega (arith, tests)) m)))
      (λ u. let d : x / size ≤ w / size = div_le_div {a = x} {b = w} (omega (arith, tests)) in
      simp u (next {r = x} i (rise_record w {k = suc (x / size)} (omega (arith, tests)) m))))))

  pub record_chained : (w : ℕ) (rs : List ℕ) → chained (earlier size) rs ≡ true → chained (earlier size) (record_row size w rs) ≡ true
  record_chained w rs c = rise_chained (rise_record w {k = 0} (omega arith) (rise_rows rs c))

  pub record_right : (ok : ℕ → Bool) (r : ℕ) (rs : List ℕ) → ok r ≡ true → all_in ok rs ≡ true → all_in ok (record_row size r rs) ≡ true
  unfolding all_in
  record_right ok r [] h a = rw (record_nil, h)
  record_right ok r (x ∷ xs) h a = let k = both (ok x) _ a in simp record_cons (cases (eqb (x / size) (r / size))
      (λ t. simp (t, h, k.1))
      (λ t. cases (ltb r x)
      (λ u. simp (t, u, h, k.0, k.1))
      (λ u. simp (t, u, k.0, record_right ok r xs h k.1))))

  pub value-right : (op : Opening) (low high p d v : ℕ) → p < op.points → d < end_of_days → v < size → low ≤ v → v ≤ high
      → value_right size low high op (pack_value size p d v) ≡ true
  unfolding value_right within
  value-right op low high p d v hp hd hv hl hh =
      rw (
        point-value size p d v (omega arith) hv,
        first-value size p d v (omega arith) hv,
        value_pack size p d v (omega arith) hv,
        lt-ltb p op.points hp,
        lt-ltb d end_of_days hd,
        le-leb low v hl,
        le-leb v high hh,
      )

-- no recorded value is above the limit
pub recorded_high : (size low high : ℕ) (op : Opening) (rows : List ℕ) (p d v : ℕ) → all_in (value_right size low high op) rows ≡ true
    → recorded_on size rows p d ≡ Some v → v ≤ high
unfolding all_in value_right
recorded_high size low high op [] p d v h e = absurd (let e' = rw recorded_nil at e in let z : ◌≡◌ {A = ℕ} 0 1 = cc in omega arith)
recorded_high size low high op (r ∷ rs) p d v h e =
    let k = both (ltb (value_point size r) op.points && (ltb (value_first size r) end_of_days && within low high (value_of size r))) _ h in
    let m = both (ltb (value_first size r) end_of_days) (within low high (value_of size r))
    (both (ltb (value_point size r) op.points) _ k.0).1 in
    cases (dated size p d r)
    (λ t. let e' : Some (value_of size r) ≡ Some v = rw (recorded_cons, t) at e in
    let z : value_of size r ≡ v = cc in
    let l = within-high low high (value_of size r) m.1 in
    omega arith)
    (λ t. recorded_high size low high op rs p d v k.1 (rw (recorded_cons, t) at e))
