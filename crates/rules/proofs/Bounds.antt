-- How large a line can be: each day's charge is bounded, and a line sums one for each point and day.
use Prim.Native.Nat.{ℕ, ◌+◌, ◌*◌, ◌/◌, ◌≤◌, ◌<◌}
use mathlib.Core.Logic.{◌≢◌}
use lib.IntN.{ℤ, pos, nat_abs, ◌*ℤ◌}
use lib.Dec.{eqb}
use native.Mathlib.Nat.{mul-le-mul, mul-le-mul_right, div-le_of_le-mul, le_trans}
use native.Mathlib.Omega.{arith}
use Rattle.integers.proofs.Integers.{mul_abs}
use Rattle.integers.proofs.Nearest.{nearest_abs}
use Rattle.integers.proofs.Sums.{sum_abs}
use Rattle.calendar.specs.Gregorian.{longest_month}
use Rattle.rules.specs.Sizes.{hour_places, millionth, most_energy, most_points, most_price, most_quantity, most_tariff_price}
use Rattle.rules.specs.Lines.{Measure, Facts, Terms, day_price, energy_on, by_kind, charge, charged_to, owed, point_line, line}
use Rattle.rules.specs.Claim.{reached_limit}
use Rattle.rules.proofs.Tests.{tests, cases}

-- what bounds a line of one element
pub record Bounded (t : Terms) (f : Facts) (e : ℕ) : Type 0 where
  pub quantity : (p d : ℕ) → f.quantity p e d ≤ most_quantity
  pub energy : (p d h : ℕ) → f.energy p d h ≤ most_energy
  pub price : (d : ℕ) → nat_abs (t.price e d 0) ≤ most_price
  pub per_kwh : t.kind e ≢ 1 → t.kind e ≢ 2 → (d h : ℕ) → h < t.hours d → nat_abs (t.price e d h) ≤ most_tariff_price
  pub hours : (d : ℕ) → t.hours d ≤ hour_places
  pub some-days : 1 ≤ t.days
  pub days : t.days ≤ longest_month
  pub points : t.points ≤ most_points

-- what one day's charge is at most
unfoldable pub day_limit : Measure → ℕ
day_limit Measure.quantity = 240000000
day_limit Measure.amount = 10000000000000000

half_up : (m n : ℕ) → 1 ≤ n → (2 * m + n) / (2 * n) ≤ m + 1
half_up m n h = div-le_of_le-mul (2 * n) (omega (arith, mul-le-mul_right m h))

day-price : (x : ℤ) (n : ℕ) → 1 ≤ n → nat_abs (day_price x n) ≤ nat_abs x + 1
day-price x n h = rw nearest_abs (half_up (nat_abs x) n h)

-- a product of a count and a price
count-price : (q : ℕ) (x : ℤ) (a b : ℕ) → q ≤ a → nat_abs x ≤ b → nat_abs (pos q *ℤ x) ≤ a * b
count-price q x a b h k = rw mul_abs (mul-le-mul h k)

-- the same of millionths, in billionths
count_millionths : (q : ℕ) (x : ℤ) (a b n : ℕ) → q ≤ a → nat_abs x ≤ b → a * b * millionth ≤ n → nat_abs (pos q *ℤ x *ℤ pos millionth) ≤ n
count_millionths q x a b n h k l = rw mul_abs (let m : nat_abs (pos q *ℤ x) ≤ a * b = count-price q x a b h k in omega arith)

pub by_kind_lem : (k : ℕ) (a b c : ℤ) (n : ℕ) → nat_abs a ≤ n → nat_abs b ≤ n → (k ≢ 1 → k ≢ 2 → nat_abs c ≤ n)
    → nat_abs (by_kind k a b c) ≤ n
unfolding by_kind
by_kind_lem k a b c n ha hb hc = cases (eqb k 1)
    (λ t. rw t ha)
    (λ t. cases (eqb k 2)
    (λ u. rw (t, u) hb)
    (λ u. rw (t, u) (hc (omega (arith, tests)) (omega (arith, tests)))))

module _ (t : Terms) (f : Facts) (e : ℕ) (b : Bounded t f e) where
  charge-small : (m : Measure) (p d : ℕ) → nat_abs (charge t f m p e d) ≤ day_limit m
  unfolding charge energy_on day_limit
  charge-small Measure.quantity p d =
      let q = b.quantity p d in
      by_kind_lem (t.kind e) _ _ _ 240000000 (omega arith) (omega arith)
      (λ x y. let s = sum_abs (λ h. pos (f.energy p d h)) most_energy (t.hours d) (λ h k. b.energy p d h) in
      let n = b.hours d in omega arith)
  charge-small Measure.amount p d =
      let q = b.quantity p d in
      let x = b.price d in
      let y = day-price (t.price e d 0) t.days b.some-days in
      by_kind_lem (t.kind e) _ _ _ 10000000000000000
      (count_millionths (f.quantity p e d) (day_price (t.price e d 0) t.days) most_quantity 10000000000 _ q (omega arith) (omega arith))
      (count_millionths (f.quantity p e d) (t.price e d 0) most_quantity most_price _ q x (omega arith))
      (λ k l. let s = sum_abs (λ h. pos (f.energy p d h) *ℤ t.price e d h) (most_energy * most_tariff_price) (t.hours d)
      (λ h i. count-price (f.energy p d h) (t.price e d h) most_energy most_tariff_price (b.energy p d h) (b.per_kwh k l d h i)) in
      let n = b.hours d in omega arith)

  owed_small : (m : Measure) (s p d : ℕ) → nat_abs (owed t f m s p e d) ≤ day_limit m
  unfolding owed
  owed_small m s p d = cases (charged_to t f s p e d)
      (λ h. rw h (charge-small m p d))
      (λ h. rw h (omega arith))

  -- 31 days and 256 points
  point-small : (m : Measure) (s p : ℕ) → nat_abs (point_line t f m s p e) ≤ longest_month * day_limit m
  unfolding point_line
  point-small m s p =
      le_trans (sum_abs (λ i. owed t f m s p e (t.first + i)) (day_limit m) t.days (λ i k. owed_small m s p (t.first + i)))
      (mul-le-mul_right (day_limit m) b.days)

  all_small : (m : Measure) → most_points * (longest_month * day_limit m) ≤ reached_limit m
  unfolding day_limit reached_limit
  all_small Measure.quantity = omega arith
  all_small Measure.amount = omega arith

  pub line_small : (m : Measure) (s : ℕ) → nat_abs (line t f m s e) ≤ reached_limit m
  unfolding line
  line_small m s =
      le_trans (sum_abs (λ p. point_line t f m s p e) (longest_month * day_limit m) t.points (λ p k. point-small m s p))
      (le_trans (mul-le-mul_right (longest_month * day_limit m) b.points) (all_small m))
