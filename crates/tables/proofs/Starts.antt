-- A period is a dated value of its point and element, whose value is its end and quantity: the starts are the recorded days.
use Prim.Native.Nat.{ℕ, suc, ◌+◌, ◌*◌, ◌/◌, ◌≤◌}
use mathlib.Core.Path.{◌≡◌, refl}
use mathlib.Core.Bool.{true, false, ◌&&◌}
use mathlib.Core.List.{List, [], ◌∷◌}
use lib.Dec.{eqb}
use native.Mathlib.Omega.{arith}
use native.Mathlib.Nat.{le_refl}
use Rattle.rules.specs.Sizes.{first_unit, day_room, element_room}
use Rattle.rules.specs.Rows.{period_point, period_element, period_first, of_pair, starts_on, next_start, value_point}
use Rattle.rules.specs.Rows.{value_first, recorded_on}
use Rattle.rules.proofs.Tests.{tests, cases}
use Rattle.rules.specs.Order.{upto, Run, done, next}
use Rattle.rules.proofs.Words.{from_is, element_lt, pair_true, pair_false}
use Rattle.rules.proofs.Clauses.{starts_nil, starts_cons, next-nil, next-cons, recorded_nil, recorded_cons}
use Rattle.tables.specs.Order.{Rising, nil, row, PeriodRows, DatedRows, PairFits, PointFits}
use Rattle.tables.specs.Search.{next_recorded, is_given}

-- periods in order and apart are dated values in order
run_dated : {j k : ℕ} {ws : List ℕ} → j ≤ k → Run k ws → Rising (λ w. w / first_unit) j ws
run_dated h done = nil
run_dated {j} h (next {w = w} a b c r) =
    let f = from_is w in
    let z : j ≤ w / first_unit = omega arith in
    let y : suc (w / first_unit) ≤ upto w = omega arith in
    row {w = w} z (run_dated {j = suc (w / first_unit)} y r)

pub period_dated : {ws : List ℕ} → PeriodRows ws → DatedRows first_unit ws
period_dated m = run_dated (le_refl _) m

module _ {p e : ℕ} (fits : PairFits p e) where
  pub pair_fits : PointFits first_unit (p * element_room + e)
  pair_fits = let h = fits.point in let k = fits.element in record { some = omega arith; point = omega arith }

  pair_point : (w : ℕ) → of_pair p e w ≡ eqb (value_point first_unit w) (p * element_room + e)
  unfolding value_point
  pair_point w =
      let f = from_is w in
      let l = element_lt w in
      let k : w / first_unit / day_room ≡ period_point w * element_room + period_element w = unfold period_point period_element in
      omega arith in
      cases (of_pair p e w)
      (λ t. let m = pair_true p e w t in
      let z : eqb (w / first_unit / day_room) (p * element_room + e) ≡ true = omega (arith, tests) in
      rw (t, z))
      (λ t. let m = pair_false p e w fits.element t in
      let z : eqb (w / first_unit / day_room) (p * element_room + e) ≡ false = omega (arith, tests) in
      rw (t, z))

  same_first : (w : ℕ) → period_first w ≡ value_first first_unit w
  unfolding period_first value_first
  same_first w = refl

  pub next_dated : (d : ℕ) (ws : List ℕ) → next_start ws p e d ≡ next_recorded first_unit ws (p * element_room + e) d
  unfolding next_recorded
  next_dated d [] = next-nil p e d
  next_dated d (w ∷ ws) = rw (next-cons, pair_point w, same_first w, next_dated d ws)

  pub starts_dated : (d : ℕ) (ws : List ℕ) → starts_on ws p e d ≡ is_given (recorded_on first_unit ws (p * element_room + e) d)
  unfolding is_given
  starts_dated d [] = rw (starts_nil, recorded_nil)
  starts_dated d (w ∷ ws) = rw (starts_cons, recorded_cons, pair_point w, same_first w, starts_dated d ws)
      (cases (eqb (value_point first_unit w) (p * element_room + e) && eqb (value_first first_unit w) d) (λ t. rw t) (λ t. rw t))
