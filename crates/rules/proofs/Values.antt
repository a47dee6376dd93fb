-- Dated values after a row is recorded, over the size.
use Prim.Native.Nat.{ℕ, ◌+◌, ◌*◌, ◌/◌, ◌<◌}
use mathlib.Core.Path.{◌≡◌, ◌∙◌}
use mathlib.Core.Bool.{true, false, cond}
use mathlib.Core.List.{List, [], ◌∷◌}
use Rattle.std.specs.Prelude.{Some}
use lib.Dec.{ltb, eqb}
use native.Mathlib.Omega.{arith}
use Rattle.rules.specs.Sizes.{day_room}
use Rattle.rules.specs.Rows.{pack_value, value_point, value_first, value_of, recorded_on, record_row}
use Rattle.rules.specs.Fresh.{here}
use Rattle.rules.proofs.Tests.{tests, cases, both, eqb_comm}
use Rattle.rules.proofs.Words.{point-value, first-value, value_pack}
use Rattle.rules.proofs.Clauses.{dated, recorded_cons, record_nil, record_cons}

module _ (size : ℕ) where
  dated_same : (p d x w : ℕ) → x / size ≡ w / size → dated size p d x ≡ dated size p d w
  unfolding value_point value_first
  dated_same p d x w h = rw h

  dated_key : (p d w : ℕ) → dated size p d w ≡ true → w / size ≡ p * day_room + d
  unfolding value_point value_first
  dated_key p d w h = let k = both (eqb (value_point size w) p) (eqb (value_first size w) d) h in omega (arith, tests)

  recorded_record : (w p d : ℕ) (ws : List ℕ)
      → recorded_on size (record_row size w ws) p d ≡ cond (dated size p d w) (Some (value_of size w)) (recorded_on size ws p d)
  recorded_record w p d [] = simp (record_nil, recorded_cons)
  recorded_record w p d (x ∷ xs) = simp (record_cons, recorded_cons)
      (cases (eqb (x / size) (w / size))
      (λ h. simp (h, recorded_cons) (cases (dated size p d w) (λ k. simp k)
      (λ k. let z : dated size p d x ≡ false = dated_same p d x w (omega (arith, tests)) ∙ k in simp (k, z))))
      (λ h. simp h (cases (ltb w x)
      (λ k. simp (k, recorded_cons))
      (λ k. simp (k, recorded_cons, recorded_record w p d xs)
      (cases (dated size p d w)
      (λ l. cases (dated size p d x)
      (λ m. let a = dated_key p d w l in let b = dated_key p d x m in absurd (omega (arith, tests)))
      (λ m. simp (l, m)))
      (λ l. simp l))))))

  -- the new value at its own point and day, the old one elsewhere
  pub recorded_pack : (p a v : ℕ) → a < day_room → v < size → (ws : List ℕ) (p' d : ℕ)
      → recorded_on size (record_row size (pack_value size p a v) ws) p' d ≡ cond (here p a p' d) (Some v) (recorded_on size ws p' d)
  unfolding here
  recorded_pack p a v ha hv ws p' d =
      rw (
        recorded_record (pack_value size p a v) p' d ws,
        point-value size p a v ha hv,
        first-value size p a v ha hv,
        value_pack size p a v ha hv,
        eqb_comm p p',
        eqb_comm a d,
      )
