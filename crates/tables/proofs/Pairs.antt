-- The rows of one point and element are one part of rows in order, and a stop takes the end of that part: those that start on the day or
-- later.
use Prim.Native.Nat.{ℕ, suc, ◌+◌, ◌≤◌, ◌<◌}
use mathlib.Core.Path.{◌≡◌, sym, ap, ◌∙◌}
use mathlib.Core.Bool.{true, false}
use mathlib.Core.List.{List, [], ◌∷◌}
use lib.Dec.{ltb, leb}
use lib.ListN.{take, drop}
use native.Mathlib.Omega.{arith}
use native.Mathlib.Nat.{le_refl, not-suc-le-zero}
use borrow.Author.Tests.{ltb-true, ltb-false}
use Rattle.rules.specs.Sizes.{day_room, element_room}
use Rattle.rules.specs.Rows.{pack_period, period_point, period_element, period_first, period_end, of_pair, stop_rows}
use Rattle.rules.proofs.Tests.{tests, cases}
use Rattle.rules.specs.Order.{from, upto, Run, done, next}
use Rattle.rules.proofs.Words.{spot, first_lt, element_lt, pair_true, pair_is}
use Rattle.rules.proofs.Clauses.{stop_nil, stop_cons}
use Rattle.tables.specs.Order.{PairFits, DayFits, PeriodRows}
use Rattle.tables.specs.Search.{rows_below, without, cut_row, cut_before, Changed}
use Rattle.tables.proofs.Order.{below_mono}
use Rattle.tables.proofs.Parts.{take_cut}
use Rattle.tables.proofs.RowRange.{Between}
use Rattle.tables.proofs.Days.{below-day, from-day}

module _ (p e : ℕ) (he : e < element_room) (w : ℕ) where
  pair_in : (d : ℕ) → spot p e d ≤ from w → from w < spot p (e + 1) 0 → (of_pair p e w ≡ true) × (d ≤ period_first w)
  pair_in d h k =
      let a = first_lt w in
      let b = element_lt w in
      let i : period_point w ≡ p = omega arith in
      let j : period_element w ≡ e = omega arith in
      (pair_is p e w i j, omega arith)

  pair_past : spot p (e + 1) 0 ≤ from w → of_pair p e w ≡ false
  pair_past h = cases (of_pair p e w) (λ t. let a = first_lt w in let k = pair_true p e w t in absurd (omega arith)) (λ t. t)

  pair_before : (d : ℕ) → from w < spot p e d → of_pair p e w ≡ true → period_first w < d
  pair_before d h t = let k = pair_true p e w t in omega arith

-- ---- everything recorded for one point and element

pub pair_between : (p e : ℕ) → e < element_room → Between (of_pair p e) (pack_period p e 0 0 0) (pack_period p (e + 1) 0 0 0)
pair_between p e he =
    record {
      order = unfold pack_period in omega arith;
      before = λ w h. cases (of_pair p e w)
          (λ t. absurd (not-suc-le-zero (pair_before p e he w 0 (below-day p e 0 w h) t)))
          (λ t. t);
      inside = λ w h l. (pair_in p e he w 0 (from-day p e 0 w h) (below-day p (e + 1) 0 w l)).0;
      past = λ w h. pair_past p e he w (from-day p (e + 1) 0 w h);
    }

-- ---- a stop

module _ (p e d : ℕ) (he : e < element_room) (hd : d < day_room) where
  stop_after : {k : ℕ} {ws : List ℕ} → Run k ws → spot p (e + 1) 0 ≤ k → stop_rows p e d ws ≡ ws
  stop_after done h = stop_nil p e d
  stop_after (next {w = w} i j c r) h =
      rw (stop_cons, pair_past p e he w (omega arith)) (ap (λ (l : List ℕ). w ∷ l) (stop_after r (omega arith)))

  stop_from : {k : ℕ} {ws : List ℕ} → Run k ws → spot p e d ≤ k → stop_rows p e d ws ≡ drop (rows_below (pack_period p (e + 1) 0 0 0) ws) ws
  unfolding rows_below
  stop_from done h = stop_nil p e d
  stop_from (next {w = w} i j c r) h = cases (ltb w (pack_period p (e + 1) 0 0 0))
      (λ t. let f = below-day p (e + 1) 0 w (ltb-true _ _ t) in
      let o = pair_in p e he w d (omega arith) f in
      let l : leb d (period_first w) ≡ true = omega (arith, tests) in
      rw (stop_cons, t, o.0, l) (stop_from r (omega arith)))
      (λ t. let f = from-day p (e + 1) 0 w (ltb-false _ _ t) in
      rw (stop_cons, t, pair_past p e he w f) (ap (λ (l : List ℕ). w ∷ l) (stop_after r (omega arith))))

  -- a row that starts before the day is below the next pair's
  within : (w : ℕ) → from w < spot p e d → ltb w (pack_period p (e + 1) 0 0 0) ≡ true
  within w f = cases (ltb w (pack_period p (e + 1) 0 0 0))
      (λ t. t)
      (λ t. let g = from-day p (e + 1) 0 w (ltb-false _ _ t) in absurd (omega arith))

  -- a row that starts before the day is cut, and those of its pair before it are not
  before : (w : ℕ) (ws : List ℕ) → from w < spot p e d → stop_rows p e d (w ∷ ws) ≡ cut_row p e d w ∷ stop_rows p e d ws
  unfolding cut_row
  before w ws h = rw stop_cons (cases (of_pair p e w)
      (λ o. let f = pair_before p e he w d h o in
      let l : leb d (period_first w) ≡ false = omega (arith, tests) in
      cases (ltb d (period_end w)) (λ u. rw (o, l, u)) (λ u. rw (o, l, u)))
      (λ o. rw o))

  uncut : (w : ℕ) → upto w ≤ spot p e d → cut_row p e d w ≡ w
  unfolding cut_row
  uncut w h = cases (of_pair p e w)
      (λ o. let k = pair_true p e w o in let u : ltb d (period_end w) ≡ false = omega (arith, tests) in rw (o, u))
      (λ o. rw o)

  stop_last : (w : ℕ) {k : ℕ} {ws : List ℕ} → from w < spot p e d → Run k ws → upto w ≤ k
      → let from = suc (rows_below (pack_period p e d 0 0) ws) in
      let to = suc (rows_below (pack_period p (e + 1) 0 0 0) ws) in
      stop_rows p e d (w ∷ ws) ≡ without from to (cut_before p e d from (w ∷ ws))
  unfolding rows_below without cut_before
  stop_last w h done q = before w [] h ∙ rw stop_nil
  stop_last w h (next {w = v} {ws = vs} i j c r) q = cases (ltb v (pack_period p e d 0 0))
      (λ t. let f = below-day p e d v (ltb-true _ _ t) in
      let u = within v f in
      rw (before w (v ∷ vs) h, uncut w (omega arith), t, u) (ap (λ (l : List ℕ). w ∷ l) (stop_last v {k = upto v} f r (le_refl _))))
      (λ t. let f = from-day p e d v (ltb-false _ _ t) in
      rw (before w (v ∷ vs) h, t) (ap (λ (l : List ℕ). cut_row p e d w ∷ l) (stop_from (next {k = from v} {w = v} (le_refl _) j c r) f)))

  stop_rows_lem : {k : ℕ} {ws : List ℕ} → Run k ws
      → let from = rows_below (pack_period p e d 0 0) ws in
      let to = rows_below (pack_period p (e + 1) 0 0 0) ws in
      stop_rows p e d ws ≡ without from to (cut_before p e d from ws)
  unfolding rows_below without cut_before
  stop_rows_lem done = stop_nil p e d
  stop_rows_lem (next {w = w} i j c r) = cases (ltb w (pack_period p e d 0 0))
      (λ t. let f = below-day p e d w (ltb-true _ _ t) in
      let u = within w f in
      rw (t, u) (stop_last w f r (le_refl _)))
      (λ t. let f = from-day p e d w (ltb-false _ _ t) in
      rw t (stop_from (next {k = from w} {w = w} (le_refl _) j c r) f))

-- ---- what the places that the search found say of the whole table

module _ {p e d : ℕ} (pair : PairFits p e) (day : DayFits d) (xs : List ℕ) (n : ℕ) {from to : ℕ}
    (f : from ≡ rows_below (pack_period p e d 0 0) (take n xs)) (t : to ≡ rows_below (pack_period p (e + 1) 0 0 0) (take n xs)) where
  pub stop_order : from ≤ to
  unfolding pack_period
  stop_order =
      let hd = day.day in
      let h = below_mono (pack_period p e d 0 0) (pack_period p (e + 1) 0 0 0) (omega arith) (take n xs) in
      omega arith

  pub stopped : from ≤ n → PeriodRows (take n xs) → {ys zs : List ℕ} {m : ℕ} → ys ≡ cut_before p e d from xs
      → Changed (without from to (take n ys)) zs m → Changed (stop_rows p e d (take n xs)) zs m
  stopped within rows {ys} y z =
      let hd = day.day in
      let cut : take n ys ≡ cut_before p e d from (take n xs) = rw y (take_cut p e d xs n from within) in
      let out : without from to (take n ys) ≡ stop_rows p e d (take n xs)
      = rw (cut, f, t) (sym (stop_rows_lem p e d pair.element (omega arith) rows)) in
      rw out at z
