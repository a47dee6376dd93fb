-- The query for the earliest day without a holder: the day that it names is the smallest of the month that lacks one, and where it names
-- none, no day of the month does. By recursion on the days.
use Prim.Native.Nat.{ℕ, zero, suc, ◌+◌, ◌≤◌, ◌<◌}
use mathlib.Core.Path.{◌≡◌, sym, ◌∙◌}
use mathlib.Core.Bool.{Bool, true, false}
use Rattle.std.specs.Prelude.{Option, None, Some}
use lib.Dec.{eqb}
use borrow.Author.Tests.{eqb-true}
use native.Mathlib.Omega.{arith}
use Rattle.calendar.proofs.MonthLaws.{month-within}
use Rattle.rules.specs.Basics.{first_from}
use Rattle.rules.specs.Sizes.{end_of_days}
use Rattle.rules.specs.World.{World, month_first, month_days}
use Rattle.rules.specs.Queries.{DayResult, day_number, lacks_holder, earliest_without_holder, day_query, day_result_number}
use Rattle.rules.proofs.Tests.{tests, cases}
use Rattle.rules.proofs.Parts.{lengths}
use Rattle.rules.proofs.BookLaws.{book-whole}

-- d is the smallest of n numbers from a on of which f holds
pub record Smallest (f : ℕ → Bool) (a n d : ℕ) : Type 0 where
  pub from : a ≤ d
  pub upto : d < a + n
  pub holds : f d ≡ true
  pub before : (i : ℕ) → a ≤ i → i < d → f i ≡ false

module _ (f : ℕ → Bool) where
  pub first_none : (a n : ℕ) → first_from f a n ≡ None → (i : ℕ) → a ≤ i → i < a + n → f i ≡ false
  unfolding first_from
  first_none a zero h i l k = absurd (omega arith)
  first_none a (suc n) h i l k = cases (f a)
      (λ t. let z = rw t at h in absurd (let x : ◌≡◌ {A = ℕ} 0 1 = cc in omega arith))
      (λ t. cases (eqb i a)
      (λ e. rw (eqb-true i a e) t)
      (λ e. first_none (suc a) n (rw t at h) i (omega (arith, tests)) (omega arith)))

  pub first_some : (a n d : ℕ) → first_from f a n ≡ Some d → Smallest f a n d
  unfolding first_from
  first_some a zero d h = absurd (let x : ◌≡◌ {A = ℕ} 0 1 = cc in omega arith)
  first_some a (suc n) d h = cases (f a)
      (λ t. let z = rw t at h in let e : a ≡ d = cc in
      record { from = omega arith; upto = omega arith; holds = rw (← e) t; before = λ i l k. absurd (omega arith) })
      (λ t. let s = first_some (suc a) n d (rw t at h) in
      let l = s.from in
      let k = s.upto in
      record {
        from = omega arith;
        upto = omega arith;
        holds = s.holds;
        before = λ i m j. cases (eqb i a) (λ e. rw (eqb-true i a e) t) (λ e. s.before i (omega (arith, tests)) j);
      })

-- ---- the query

module _ (w : World) (p : ℕ) where
  pub day-number : day_result_number (day_query w p) ≡ day_number w p
  unfolding day_query
  day-number = cases (eqb (day_number w p) 0) (λ t. rw t (sym (eqb-true _ _ t))) (λ t. rw t)

  -- where no question says no, the days of the month are looked through
  pub day-answered : day_number w p ≡ 0 → day_query w p ≡ DayResult.answered (earliest_without_holder w.opening w.position.tables p)
  unfolding day_query
  day-answered h = rw h

  module _ (x : Option ℕ) (h : day_query w p ≡ DayResult.answered x) where
    not_refused : day_number w p ≡ 0
    not_refused = sym day-number ∙ rw h

    answered-is : earliest_without_holder w.opening w.position.tables p ≡ x
    answered-is = let k = sym (day-answered not_refused) ∙ h in cc

  pub day_smallest : (d : ℕ) → day_query w p ≡ DayResult.answered (Some d)
      → Smallest (lacks_holder w.opening w.position.tables p) (month_first w.opening) (month_days w.opening) d
  unfolding earliest_without_holder
  day_smallest d h = first_some _ _ _ d (answered-is (Some d) h)

  pub day_none : day_query w p ≡ DayResult.answered None
      → (d : ℕ) → month_first w.opening ≤ d → d < month_first w.opening + month_days w.opening
      → lacks_holder w.opening w.position.tables p d ≡ false
  unfolding earliest_without_holder
  day_none h = first_none _ _ _ (answered-is None h)

  -- a day that is named is one of the calendar
  pub day-below : (d : ℕ) → day_query w p ≡ DayResult.answered (Some d) → d < end_of_days
  unfolding day_number month_first month_days
  day-below d h =
      let s = (day_smallest d h).upto in
      let whole = (book-whole w _ (not_refused (Some d) h)).0 in
      let m = month-within w.opening.year w.opening.month (lengths w whole).limited.month in
      omega arith
