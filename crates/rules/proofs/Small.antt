-- The facts of right tables, and the terms of right elements, are bounded; so are the lines they give.
use mathlib.Core.Path.{◌≡◌, refl}
use mathlib.Core.Logic.{◌≢◌}
use Prim.Native.Nat.{ℕ, ◌+◌, ◌*◌, ◌≤◌, ◌<◌}
use mathlib.Core.Bool.{Bool, true, not, ◌&&◌, ◌||◌}
use mathlib.Core.List.{List, [], ◌∷◌}
use lib.IntN.{pos, nat_abs}
use lib.ListN.{get_or}
use lib.Dec.{leb, eqb}
use borrow.Author.Tests.{leb-true}
use native.Mathlib.Nat.{le_trans}
use native.Mathlib.Omega.{arith}
use Rattle.calendar.proofs.MonthLaws.{days-range}
use Rattle.rules.specs.Sizes.{most_energy, most_price, most_quantity, most_tariff_price, price_places}
use Rattle.rules.specs.Basics.{within, all_to, all_in}
use Rattle.rules.specs.Rows.{covers, quantity_on}
use Rattle.rules.specs.World.{Opening, Tables, rows_of, month_days, kind_of, owner_of, marks_of, marked, pass_on, tax, hourly, hours_of}
use Rattle.rules.specs.World.{price_of, terms_by, reading_at, energy_of, facts_of}
use Rattle.rules.specs.WellFormed.{price_limit, price_size, element_right, period_right}
use Rattle.rules.proofs.Tests.{tests, cases, both}
use Rattle.rules.proofs.Ranges.{within_low, within-high, all-at, all_get_d}
use Rattle.rules.proofs.Clauses.{quantity-nil, quantity-cons}
use Rattle.rules.proofs.PeriodsRight.{right_of}
use Rattle.rules.proofs.Bounds.{Bounded}
use Rattle.rules.specs.Whole.{Limits, TablesRight}
use Rattle.rules.proofs.Parts.{links-each}

-- a linked quantity is that of a right row
quantity-high : (op : Opening) (rows : List ℕ) → all_in (period_right op) rows ≡ true → (p e d : ℕ) → quantity_on rows p e d ≤ most_quantity
unfolding all_in
quantity-high op [] h p e d = rw quantity-nil (omega arith)
quantity-high op (r ∷ rs) h p e d =
    let k = both (period_right op r) (all_in (period_right op) rs) h in
    let f = right_of op r k.0 in
    let ih = quantity-high op rs k.1 p e d in
    rw quantity-cons (cases (covers p e d r)
    (λ c. rw c f.most)
    (λ c. rw c ih))

module _ (op : Opening) (e : ℕ) (h : element_right op e ≡ true) where
  -- the sizes of the prices
  sizes : all_to (λ i. leb (price_size op e i) (price_limit (kind_of op e))) price_places ≡ true
  unfolding element_right
  sizes =
      let h1 = both (within 1 3 (kind_of op e)) _ h in
      let h2 = both (within 1 2 (owner_of op e)) _ h1.1 in
      let h3 = both (leb (marks_of op e) 15) _ h2.1 in
      let h4 = both (not (marked op pass_on e && eqb (kind_of op e) 2)) _ h3.1 in
      let h5 = both (not (marked op tax e) || (eqb (kind_of op e) 3 && eqb (owner_of op e) 2)) _ h4.1 in
      let h6 = both (not (marked op hourly e) || eqb (kind_of op e) 3) _ h5.1 in
      (both (all_to (λ i. leb (price_size op e i) (price_limit (kind_of op e))) price_places) _ h6.1).0

  size_at : (i : ℕ) → i < price_places → nat_abs (get_or op.prices (e * price_places + i) (pos 0)) ≤ price_limit (kind_of op e)
  unfolding price_size
  size_at i l = leb-true _ _ (all-at _ price_places sizes i l)

  -- a price that is used stands at one of the 24 places
  price-at : (d i : ℕ) → i < price_places → nat_abs (price_of op e d i) ≤ price_limit (kind_of op e)
  unfolding price_of
  price-at d i l = cases (marked op hourly e)
      (λ c. rw c (size_at i l))
      (λ c. rw c (size_at 0 (omega arith)))

  limit_high : price_limit (kind_of op e) ≤ most_price
  unfolding price_limit
  limit_high = cases (eqb (kind_of op e) 3) (λ c. rw c (omega arith)) (λ c. rw c (omega arith))

  limit_tariff : kind_of op e ≢ 1 → kind_of op e ≢ 2 → price_limit (kind_of op e) ≤ most_tariff_price
  unfolding price_limit element_right
  limit_tariff a b =
      let k = (both (within 1 3 (kind_of op e)) _ h).0 in
      let low = within_low 1 3 (kind_of op e) k in
      let high = within-high 1 3 (kind_of op e) k in
      cases (eqb (kind_of op e) 3) (λ c. rw c (omega arith)) (λ c. absurd (omega (arith, tests)))

  -- whichever states count
  pub bounded : (counts : ℕ → Bool) → Limits op → (t : Tables) → TablesRight op t → Bounded (terms_by counts op) (facts_of op t) e
  unfolding terms_by facts_of hours_of energy_of month_days
  bounded counts l t r = record {
    quantity = λ p d. quantity-high op (rows_of t.links) (links-each op t.links r.links) p e d;
    energy = λ p d i. leb-true _ _ (all_get_d (λ x. leb x most_energy) t.readings (reading_at op p d i) 0 refl r.readings);
    price = λ d. le_trans (price-at d 0 (omega arith)) limit_high;
    per_kwh = λ a b d i k. le_trans (price-at d i k) (limit_tariff a b);
    hours = λ d. omega arith;
    some-days = let k = days-range op.year op.month in omega arith;
    days = (days-range op.year op.month).1;
    points = l.points;
  }
