-- The words of days among rows: which rows start before a day, which cover it, and what that says of the quantity and of the rows.
use Prim.Native.Nat.{ℕ, zero, suc, ◌+◌, ◌≤◌, ◌<◌}
use mathlib.Core.Path.{◌≡◌, refl, sym, ap, ◌∙◌}
use mathlib.Core.Bool.{Bool, true, false, cond, false≢true}
use mathlib.Core.List.{List, [], ◌∷◌}
use lib.Dec.{ltb, eqb}
use Rattle.std.specs.Prelude.{Option, Some, None}
use Rattle.std.specs.List.{find, position, position_or_len}
use Rattle.std.specs.Option.{option_map_or}
use Rattle.std.proofs.lemmas.List.Sums.{position_or_len_is, fails_before_first}
use Rattle.std.proofs.lemmas.List.Folds.{find_at}
use Rattle.std.proofs.lemmas.List.Quantifiers.{position-Some}
use Rattle.std.proofs.lemmas.Option.{slice_get-get_or, slice_get_past}
use lib.ListN.{length, get_or, take, set, length-set}
use lib.Seq.{get_or-take, take-set-lt}
use native.Mathlib.Omega.{arith}
use native.Mathlib.Numerals.{add-one}
use native.Mathlib.Nat.{le_refl, le_of_suc-le-suc, not-suc-le-zero}
use Prim.Native.Nat.{suc-le-suc}
use borrow.Author.Tests.{eqb-true, eq-eqb, ne_eqb}
use Rattle.rules.specs.Rows.{pack_period, period_first, period_end, period_quantity, covers, quantity_on, split_rows}
use Rattle.rules.proofs.Tests.{tests, cases}
use Rattle.rules.specs.Order.{from, upto, Run, done, next, linked_in}
use Rattle.rules.proofs.Words.{spot, from_is}
use Rattle.rules.proofs.Clauses.{quantity-nil, quantity-cons, split_nil, split_cons}
use Rattle.rules.proofs.Runs.{end_in, end-cons, covered, linked_nil, linked_cons}
use Rattle.rules.specs.World.{table_of}
use Rattle.tables.specs.Order.{PeriodRows, ClearBehind}
use Rattle.tables.specs.Search.{rows_below, end_on, put_in, Changed}
use Rattle.tables.proofs.Order.{run_rising, below-le, below_at, above_at}
use Rattle.tables.proofs.Parts.{rows_long, table_is, table_set, length_put}

-- the rows below the word of a day are those that start before it
module _ (p e d w : ℕ) where
  pub below-day : w < pack_period p e d 0 0 → from w < spot p e d
  unfolding pack_period
  below-day h = let f = from_is w in omega arith

  pub from-day : pack_period p e d 0 0 ≤ w → spot p e d ≤ from w
  unfolding pack_period
  from-day h = let f = from_is w in omega arith

  pub not_before : spot p e d < from w → covers p e d w ≡ false
  not_before h = cases (covers p e d w) (λ t. let k = covered p e d w t in absurd (omega arith)) (λ t. t)

  not_after : upto w ≤ spot p e d → covers p e d w ≡ false
  not_after h = cases (covers p e d w) (λ t. let k = covered p e d w t in absurd (omega arith)) (λ t. t)

-- ---- the row that covers a day

from_later : {k : ℕ} {ws : List ℕ} → Run k ws → (j : ℕ) → j < length ws → k ≤ from (get_or ws j 0)
from_later done j l = absurd (not-suc-le-zero l)
from_later (next a b c r) zero l = a
from_later (next {w = w} a b c r) (suc j) l = let z = from_later r j (le_of_suc-le-suc l) in omega arith

run_apart : {k : ℕ} {ws : List ℕ} → Run k ws → (i j : ℕ) → i < j → j < length ws → upto (get_or ws i 0) ≤ from (get_or ws j 0)
run_apart done i j h l = absurd (not-suc-le-zero l)
run_apart (next a b c r) i zero h l = absurd (not-suc-le-zero h)
run_apart (next a b c r) zero (suc j) h l = from_later r j (le_of_suc-le-suc l)
run_apart (next a b c r) (suc i) (suc j) h l = run_apart r i j (le_of_suc-le-suc h) (le_of_suc-le-suc l)

-- the first place at which a test passes
position_none : (p : ℕ → Bool) (ws : List ℕ) → ((i : ℕ) → i < length ws → p (get_or ws i 0) ≡ false) → position p ws ≡ None
position_none p ws h =
    let e : position_or_len p ws ≡ length ws = position_or_len_is p ws (length ws) 0 (le_refl _) h (λ l. absurd (omega arith)) in
    let z : ltb (length ws) (length ws) ≡ false = omega (arith, tests) in
    rw (e, z)

position_some : (p : ℕ → Bool) (ws : List ℕ) (i : ℕ) → i < length ws → ((k : ℕ) → k < i → p (get_or ws k 0) ≡ false)
    → p (get_or ws i 0) ≡ true → position p ws ≡ Some i
position_some p ws i l h t =
    let e : position_or_len p ws ≡ i = position_or_len_is p ws i 0 (omega arith) h (λ m. t) in
    let z : ltb i (length ws) ≡ true = omega (arith, tests) in
    rw (e, z)

none_passes : (p : ℕ → Bool) (ws : List ℕ) → position p ws ≡ None → (i : ℕ) → i < length ws → p (get_or ws i 0) ≡ false
none_passes p ws e i l = cases (ltb (position_or_len p ws) (length ws))
    (λ t. let z : ◌≡◌ {A = Option ℕ} (Some (position_or_len p ws)) None = rw t at e in absurd (cc))
    (λ t. fails_before_first p ws i 0 (omega (arith, tests)))

-- and the row there
pub found_row : (p : ℕ → Bool) (ws : List ℕ) (i : ℕ) → position p ws ≡ Some i → find p ws ≡ Some (get_or ws i 0)
found_row p ws i e =
    let s = position-Some p ws i 0 e in
    let k : position_or_len p ws ≡ i = position_or_len_is p ws i 0 (omega (arith, s.0)) s.2 (λ l. s.1) in
    find_at p ws ∙ rw k (slice_get-get_or ws i 0 s.0)

pub found_none : (p : ℕ → Bool) (ws : List ℕ) → position p ws ≡ None → find p ws ≡ None
found_none p ws e = cases (ltb (position_or_len p ws) (length ws))
    (λ t. let z : ◌≡◌ {A = Option ℕ} (Some (position_or_len p ws)) None = rw t at e in absurd (cc))
    (λ t. find_at p ws ∙ slice_get_past ws (position_or_len p ws) (omega (arith, tests)))

module _ (p e d : ℕ) {ws : List ℕ} (rows : PeriodRows ws) where
  late : (i : ℕ) → rows_below (pack_period p e (d + 1) 0 0) ws ≤ i → i < length ws → covers p e d (get_or ws i 0) ≡ false
  late i h l =
      let f = from-day p e (d + 1) (get_or ws i 0) (above_at _ (run_rising rows) i h l) in
      not_before p e d (get_or ws i 0) (omega arith)

  early : (i j : ℕ) → i < j → j < rows_below (pack_period p e (d + 1) 0 0) ws → covers p e d (get_or ws i 0) ≡ false
  early i j h l =
      let m = below-le (pack_period p e (d + 1) 0 0) ws in
      let a = run_apart rows i j h (omega arith) in
      let b = below-day p e (d + 1) (get_or ws j 0) (below_at _ ws j l) in
      not_after p e d (get_or ws i 0) (omega arith)

  -- no row starts by then
  pub covering_missed : rows_below (pack_period p e (d + 1) 0 0) ws ≡ 0 → position (covers p e d) ws ≡ None
  covering_missed z = position_none (covers p e d) ws (λ i l. late i (omega arith) l)

  -- the last that starts by then covers it, or none does
  pub covering_found : (j : ℕ) → rows_below (pack_period p e (d + 1) 0 0) ws ≡ j + 1
      → position (covers p e d) ws ≡ cond (covers p e d (get_or ws j 0)) (Some j) None
  covering_found j z =
      let m = below-le (pack_period p e (d + 1) 0 0) ws in
      cases (covers p e d (get_or ws j 0))
      (λ t. rw t (position_some (covers p e d) ws j (omega arith) (λ i h. early i j h (omega arith)) t))
      (λ t. rw t (position_none (covers p e d) ws (λ i l. cases (ltb i j)
      (λ u. early i j (omega (arith, tests)) (omega arith))
      (λ u. cases (eqb i j)
      (λ v. rw (eqb-true i j v) t)
      (λ v. late i (omega (arith, tests)) l)))))

-- ---- what the row that covers a day says of it

module _ (p e d : ℕ) where
  pub quantity_covering : (ws : List ℕ) → quantity_on ws p e d ≡ option_map_or period_quantity (find (covers p e d) ws) 0
  quantity_covering [] = quantity-nil p e d
  quantity_covering (w ∷ ws) = rw quantity-cons (cases (covers p e d w)
      (λ t. rw t)
      (λ t. rw t (quantity_covering ws)))

  pub end_covering : (ws : List ℕ) → end_on ws p e d ≡ option_map_or period_end (find (covers p e d) ws) 0
  unfolding end_on
  end_covering [] = refl
  end_covering (w ∷ ws) = cases (covers p e d w)
      (λ t. rw t)
      (λ t. rw t (end_covering ws))

  -- for a day that is linked, it is the end that the rules speak of
  pub end_same : (ws : List ℕ) → linked_in ws p e d ≡ true → end_on ws p e d ≡ end_in ws p e d
  unfolding end_on
  end_same [] l = absurd (false≢true (sym (linked_nil p e d) ∙ l))
  end_same (w ∷ ws) l = rw end-cons (cases (covers p e d w)
      (λ t. rw t)
      (λ t. rw t (end_same ws (simp (linked_cons, t) at l))))

  -- a new quantity: nothing where no row covers the day, the row in place of the old where it starts there, else two rows
  module _ (q : ℕ) where
    split_none : (ws : List ℕ) → ((i : ℕ) → i < length ws → covers p e d (get_or ws i 0) ≡ false) → split_rows p e d q ws ≡ ws
    split_none [] h = split_nil p e d q
    split_none (w ∷ ws) h =
        rw (split_cons, h 0 (omega arith)) (ap (λ (l : List ℕ). w ∷ l) (split_none ws (λ i l. h (suc i) (suc-le-suc l))))

    split_first : (ws : List ℕ) (at : ℕ) → at < length ws → ((i : ℕ) → i < at → covers p e d (get_or ws i 0) ≡ false)
        → covers p e d (get_or ws at 0) ≡ true → let v = get_or ws at 0 in
        period_first v ≡ d → split_rows p e d q ws ≡ set ws at (pack_period p e d (period_end v) q)
    split_first [] at l h t f = absurd (not-suc-le-zero l)
    split_first (w ∷ ws) zero l h t f = rw (split_cons, t, eq-eqb (period_first w) d f)
    split_first (w ∷ ws) (suc at) l h t f =
        rw (split_cons, h 0 (omega arith))
        (ap (λ (r : List ℕ). w ∷ r) (split_first ws at (le_of_suc-le-suc l) (λ i k. h (suc i) (suc-le-suc k)) t f))

    split_two : (ws : List ℕ) (at : ℕ) → at < length ws → ((i : ℕ) → i < at → covers p e d (get_or ws i 0) ≡ false)
        → covers p e d (get_or ws at 0) ≡ true → let v = get_or ws at 0 in
        (period_first v ≡ d → ⊥) → split_rows p e d q ws
        ≡ put_in (suc at) (pack_period p e d (period_end v) q) (set ws at (pack_period p e (period_first v) d (period_quantity v)))
    unfolding put_in
    split_two [] at l h t f = absurd (not-suc-le-zero l)
    split_two (w ∷ ws) zero l h t f = rw (split_cons, t, ne_eqb (period_first w) d f)
    split_two (w ∷ ws) (suc at) l h t f =
        rw (split_cons, h 0 (omega arith))
        (ap (λ (r : List ℕ). w ∷ r) (split_two ws at (le_of_suc-le-suc l) (λ i k. h (suc i) (suc-le-suc k)) t f))

-- ---- a new quantity in the whole table, at the place that the search found

module _ (p e d q : ℕ) {xs : List ℕ} {n : ℕ} (c : ClearBehind xs n) where
  pub split_stays : position (covers p e d) (take n xs) ≡ None → Changed (split_rows p e d q (take n xs)) xs n
  split_stays h =
      let s = split_none p e d q (take n xs) (none_passes (covers p e d) (take n xs) h) in
      record { is = rw s (table_is xs n c); count = rw s (sym (rows_long xs n c)) }

  module _ {at : ℕ} (found : position (covers p e d) (take n xs) ≡ Some at) where
    pub split_inside : at < n
    split_inside = let l = rows_long xs n c in let s = position-Some (covers p e d) (take n xs) at 0 found in omega (arith, s.0)

    same_row : get_or (take n xs) at 0 ≡ get_or xs at 0
    same_row = get_or-take n xs at 0 split_inside

    pub split_replaced : (w : ℕ) → period_first (get_or xs at 0) ≡ d → w ≡ pack_period p e d (period_end (get_or xs at 0)) q
        → Changed (split_rows p e d q (take n xs)) (set xs at w) n
    split_replaced w g k =
        let s = position-Some (covers p e d) (take n xs) at 0 found in
        let r : split_rows p e d q (take n xs) ≡ set (take n xs) at w
        = split_first p e d q (take n xs) at s.0 s.2 s.1 (rw same_row g) ∙ rw (same_row, k) in
        record { is = rw r (table_set xs n c at w split_inside); count = rw r (sym (length-set (take n xs) at w ∙ rows_long xs n c)) }

    module _ {v w : ℕ} (g : period_first (get_or xs at 0) ≡ d → ⊥) (k : w ≡ pack_period p e d (period_end (get_or xs at 0)) q)
        (m : v ≡ pack_period p e (period_first (get_or xs at 0)) d (period_quantity (get_or xs at 0))) where
      two_rows : split_rows p e d q (take n xs) ≡ put_in (at + 1) w (take n (set xs at v))
      two_rows =
          let s = position-Some (covers p e d) (take n xs) at 0 found in
          let g' : period_first (get_or (take n xs) at 0) ≡ d → ⊥ = rw same_row g in
          split_two p e d q (take n xs) at s.0 s.2 s.1 g' ∙ rw (same_row, ← k, ← m, take-set-lt n xs at v split_inside, add-one)

      pub split_longer : length (split_rows p e d q (take n xs)) ≡ n + 1
      split_longer =
          let i = split_inside in
          let l : length (take n (set xs at v)) ≡ n = rw (take-set-lt n xs at v i, length-set) (rows_long xs n c) in
          rw two_rows (length_put (at + 1) w (take n (set xs at v)) (rw l (omega arith)) ∙ rw l (omega arith))

      pub split_put : (zs : List ℕ) → zs ≡ (table_of (put_in (at + 1) w (take n (set xs at v)))).words
          → Changed (split_rows p e d q (take n xs)) zs (n + 1)
      split_put zs z = record { is = rw (← two_rows) at z; count = sym split_longer }
