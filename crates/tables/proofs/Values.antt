-- Dated values in order by point and day: which row is in force, which is next, and where a new one goes. Over the size.
use Prim.Native.Nat.{ℕ, zero, suc, ◌+◌, ◌-◌, ◌*◌, ◌/◌, ◌≤◌, ◌<◌, min, suc-le-suc}
use mathlib.Core.Path.{◌≡◌, refl, sym, ap, ◌∙◌}
use mathlib.Core.Bool.{true, false, ◌&&◌, cond}
use mathlib.Core.List.{List, [], ◌∷◌}
use Rattle.std.specs.Prelude.{Option, None, Some}
use lib.Dec.{ltb, leb, eqb}
use Rattle.std.specs.List.{find, slice_get}
use Rattle.std.proofs.lemmas.Option.{slice_get-get_or}
use Rattle.std.specs.Option.{option_map_or}
use lib.ListN.{length, get_or, take, set, length-set}
use lib.Seq.{get_or-take, length-take-le}
use native.Mathlib.Omega.{arith}
use native.Mathlib.Nat.{le_refl, le_trans, le_of_suc-le-suc, not-suc-le-zero, le-mul_of_pos_right, mul-le-mul_right, suc-mul}
use native.Mathlib.Nat.{le-div_iff_mul-le, div-lt_iff_lt-mul}
use borrow.Author.Tests.{ltb-true, ltb-false, eqb-true, eq-eqb, ne_eqb}
use Rattle.rules.specs.Sizes.{day_room, end_of_days}
use Rattle.rules.specs.Basics.{latest, or_else}
use Rattle.rules.specs.Rows.{pack_value, value_point, value_first, value_of, recorded_on, record_row}
use Rattle.rules.proofs.Tests.{tests, cases, both}
use Rattle.rules.proofs.Clauses.{dated, recorded_nil, recorded_cons, record_nil, record_cons}
use Rattle.rules.specs.World.{table_of}
use Rattle.tables.specs.Order.{Rising, nil, row, PointFits, ClearBehind}
use Rattle.tables.specs.Search.{rows_below, next_recorded, is_given, put_in, Changed}
use Rattle.tables.proofs.Parts.{rows_long, table_set, length_put}
use Rattle.tables.proofs.Order.{rising_from, rising_le, below_at, above_at, below-le, div_le_div, values_rising}

-- ---- one word

-- the words of a point fit 64 bits
module _ {size p : ℕ} (f : PointFits size p) where
  pub point-small : (p + 1) * day_room ≤ 18446744073709551615
  point-small = le_trans (le-mul_of_pos_right ((p + 1) * day_room) f.some) f.point

  pub word_small : {a v : ℕ} → a < day_room → v < size → (p * day_room + a) * size + v < 18446744073709551616
  word_small {a} {v} ha hv =
      let h : suc (p * day_room + a) * size ≤ (p + 1) * day_room * size = mul-le-mul_right size (omega arith) in
      let e = suc-mul (p * day_room + a) size in
      let k = f.point in
      omega arith

module _ (size : ℕ) where
  -- a row's point and day as one number
  pub key_parts : (w : ℕ) → (w / size ≡ value_point size w * day_room + value_first size w) × (value_first size w < day_room)
  unfolding value_point value_first
  key_parts w = (omega arith, omega arith)

  pub dated_key : (p d w : ℕ) → dated size p d w ≡ true → w / size ≡ p * day_room + d
  dated_key p d w h =
      let k = both (eqb (value_point size w) p) (eqb (value_first size w) d) h in
      let m = key_parts w in
      omega (arith, tests)

  pub not_dated : (p d w : ℕ) → (w / size ≡ p * day_room + d → ⊥) → dated size p d w ≡ false
  not_dated p d w h = cases (dated size p d w) (λ t. absurd (h (dated_key p d w t))) (λ t. t)

  module _ (pos : 0 < size) where
    below-value : (p d w : ℕ) → w < pack_value size p d 0 → w / size < p * day_room + d
    unfolding pack_value
    below-value p d w h = (div-lt_iff_lt-mul {k = size} {x = w} {y = p * day_room + d} pos).1 (omega arith)

    from-value : (p d w : ℕ) → pack_value size p d 0 ≤ w → p * day_room + d ≤ w / size
    unfolding pack_value
    from-value p d w h = (le-div_iff_mul-le {k = size} {x = p * day_room + d} {y = w} pos).1 (omega arith)

-- ---- the next recorded day

module _ (size p d : ℕ) where
  next-high : (ws : List ℕ) → next_recorded size ws p d ≤ end_of_days
  unfolding next_recorded
  next-high [] = le_refl _
  next-high (w ∷ ws) = let h = next-high ws in cases (eqb (value_point size w) p && ltb d (value_first size w))
      (λ t. rw t (omega arith))
      (λ t. rw t h)

  next_low : (f : ℕ) {k : ℕ} {ws : List ℕ} → Rising (λ w. w / size) k ws → p * day_room + f ≤ k
      → min f end_of_days ≤ next_recorded size ws p d
  unfolding next_recorded
  next_low f nil h = omega arith
  next_low f (row {w = w} i m) h = let ih = next_low f m (omega arith) in
      cases (eqb (value_point size w) p && ltb d (value_first size w))
      (λ t. let b = both (eqb (value_point size w) p) (ltb d (value_first size w)) t in
      let k = key_parts size w in
      let z : f ≤ value_first size w = omega (arith, tests) in
      rw t (omega arith))
      (λ t. rw t ih)

  -- the first row from the day on tells it
  pub next_found : PointFits size p → {k : ℕ} {ws : List ℕ} → Rising (λ w. w / size) k ws
      → next_recorded size ws p d
      ≡ option_map_or (λ r. cond (eqb (value_point size r) p) (min (value_first size r) end_of_days) end_of_days)
      (find (λ w. leb (pack_value size p (d + 1) 0) w) ws) end_of_days
  unfolding next_recorded
  next_found f nil = refl
  next_found f (row {w = w} {ws = ws} i m) = let k = key_parts size w in cases (ltb w (pack_value size p (d + 1) 0))
      (λ t. let b = below-value size f.some p (d + 1) w (ltb-true _ _ t) in
      let s : leb (pack_value size p (d + 1) 0) w ≡ false = omega (arith, tests) in
      let n : (eqb (value_point size w) p && ltb d (value_first size w)) ≡ false = cases (eqb (value_point size w) p)
      (λ u. let z : ltb d (value_first size w) ≡ false = omega (arith, tests) in rw (u, z))
      (λ u. rw u) in
      rw (s, n) (next_found f m))
      (λ t. let b = from-value size f.some p (d + 1) w (ltb-false _ _ t) in
      let s : leb (pack_value size p (d + 1) 0) w ≡ true = omega (arith, tests) in
      let high = next-high ws in
      cases (eqb (value_point size w) p)
      (λ u. let z : ltb d (value_first size w) ≡ true = omega (arith, tests) in
      let low = next_low (value_first size w) m (omega (arith, tests)) in
      rw (s, u, z) (omega arith))
      (λ u. let low = next_low day_room m (omega (arith, tests)) in
      rw (s, u) (omega arith)))

-- ---- a value recorded that very day

module _ (size p d : ℕ) where
  pub recorded_later : {k : ℕ} {ws : List ℕ} → Rising (λ w. w / size) k ws → p * day_room + d < k → recorded_on size ws p d ≡ None
  recorded_later nil h = recorded_nil size p d
  recorded_later (row {w = w} i m) h = rw (recorded_cons, not_dated size p d w (λ e. omega arith)) (recorded_later m (omega arith))

  -- the first row from the day on tells it
  pub recorded_found : PointFits size p → {k : ℕ} {ws : List ℕ} → Rising (λ w. w / size) k ws
      → is_given (recorded_on size ws p d)
      ≡ option_map_or (λ r. eqb (value_point size r) p && eqb (value_first size r) d) (find (λ w. leb (pack_value size p d 0) w) ws) false
  unfolding is_given
  recorded_found f nil = rw recorded_nil
  recorded_found f (row {w = w} {ws = ws} i m) = cases (ltb w (pack_value size p d 0))
      (λ t. let b = below-value size f.some p d w (ltb-true _ _ t) in
      let s : leb (pack_value size p d 0) w ≡ false = omega (arith, tests) in
      rw (recorded_cons, not_dated size p d w (λ e. omega arith), s) (recorded_found f m))
      (λ t. let b = from-value size f.some p d w (ltb-false _ _ t) in
      let s : leb (pack_value size p d 0) w ≡ true = omega (arith, tests) in
      let l = recorded_later m (omega arith) in
      rw (recorded_cons, s) (cases (eqb (value_point size w) p)
      (λ u. cases (eqb (value_first size w) d) (λ v. rw (u, v)) (λ v. rw (u, v, l)))
      (λ u. rw (u, l))))

-- ---- the value in force

module _ (f : ℕ → Option ℕ) where
  latest_empty : (d : ℕ) → ((i : ℕ) → i ≤ d → f i ≡ None) → latest f d ≡ 0
  unfolding latest or_else
  latest_empty zero h = rw (h 0 (le_refl _))
  latest_empty (suc d) h = rw (h (suc d) (le_refl _)) (latest_empty d (λ i k. h i (omega arith)))

  latest-at : (a v d : ℕ) → a ≤ d → f a ≡ Some v → ((i : ℕ) → a < i → i ≤ d → f i ≡ None) → latest f d ≡ v
  unfolding latest or_else
  latest-at a v zero l e h = let z : a ≡ 0 = omega arith in rw (← z, e)
  latest-at a v (suc d) l e h = cases (eqb a (suc d))
      (λ t. rw (← eqb-true a (suc d) t, e))
      (λ t. rw (h (suc d) (omega (arith, tests)) (le_refl _)) (latest-at a v d (omega (arith, tests)) e (λ i k m. h i k (omega arith))))

module _ (size p : ℕ) where
  recorded_none : (d : ℕ) (ws : List ℕ) → ((i : ℕ) → i < length ws → get_or ws i 0 / size ≡ p * day_room + d → ⊥)
      → recorded_on size ws p d ≡ None
  recorded_none d [] h = recorded_nil size p d
  recorded_none d (w ∷ ws) h =
      rw (recorded_cons, not_dated size p d w (h 0 (omega arith))) (recorded_none d ws (λ i l. h (suc i) (suc-le-suc l)))

  recorded_at : {k : ℕ} {ws : List ℕ} → Rising (λ w. w / size) k ws → (j : ℕ) → j < length ws → value_point size (get_or ws j 0) ≡ p
      → recorded_on size ws p (value_first size (get_or ws j 0)) ≡ Some (value_of size (get_or ws j 0))
  recorded_at nil j l e = absurd (not-suc-le-zero l)
  recorded_at (row {w = w} i m) zero l e = rw (recorded_cons, eq-eqb _ _ e, eq-eqb (value_first size w) (value_first size w) refl)
  recorded_at (row {w = w} {ws = ws} i m) (suc j) l e =
      let h = rising_from (λ v. v / size) m j (le_of_suc-le-suc l) in
      let k = key_parts size (get_or ws j 0) in
      rw (recorded_cons, not_dated size p (value_first size (get_or ws j 0)) w (λ z. omega arith)) (recorded_at m j (le_of_suc-le-suc l) e)

  module _ (f : PointFits size p) (d : ℕ) (hd : d < day_room) {ws : List ℕ} (m : Rising (λ w. w / size) 0 ws) where
    later : (i : ℕ) → rows_below (pack_value size p (d + 1) 0) ws ≤ i → i < length ws → p * day_room + d < get_or ws i 0 / size
    later i h l =
        let z = from-value size f.some p (d + 1) (get_or ws i 0) (above_at _ (values_rising size f.some m) i h l) in
        omega arith

    -- nothing is recorded by then
    value_none : rows_below (pack_value size p (d + 1) 0) ws ≡ 0 → latest (recorded_on size ws p) d ≡ 0
    value_none e =
        latest_empty (recorded_on size ws p) d (λ i h. recorded_none i ws (λ j l z. let k = later j (omega arith) l in omega arith))

    -- the last row by then is of the point, or nothing is recorded by then
    value-last : (j : ℕ) → rows_below (pack_value size p (d + 1) 0) ws ≡ suc j → j < length ws
        → latest (recorded_on size ws p) d ≡ cond (eqb (value_point size (get_or ws j 0)) p) (value_of size (get_or ws j 0)) 0
    value-last j e l =
        let w = get_or ws j 0 in
        let k = key_parts size w in
        let b = below-value size f.some p (d + 1) w (below_at _ ws j (omega arith)) in
        cases (eqb (value_point size w) p)
        (λ t. rw t (latest-at (recorded_on size ws p) (value_first size w) (value_of size w) d (omega (arith, tests))
        (recorded_at m j l (eqb-true _ _ t))
        (λ i a h. recorded_none i ws (λ n o z. cases (leb n j)
        (λ u. let y = rising_le (λ v. v / size) m n j (omega (arith, tests)) l in omega (arith, tests))
        (λ u. let y = later n (omega (arith, tests)) o in omega arith)))))
        (λ t. rw t (latest_empty (recorded_on size ws p) d (λ i h. recorded_none i ws (λ n o z. cases (leb n j)
        (λ u. let y = rising_le (λ v. v / size) m n j (omega (arith, tests)) l in omega (arith, tests))
        (λ u. let y = later n (omega (arith, tests)) o in omega arith)))))

    -- so of the rows up to that one the last tells it
    pub value_found : (n : ℕ) → n ≡ rows_below (pack_value size p (d + 1) 0) ws → latest (recorded_on size ws p) d
        ≡ option_map_or (λ r. cond (eqb (value_point size r) p) (value_of size r) 0) (slice_get (take n ws) (length (take n ws) - 1)) 0
    value_found zero e = value_none (sym e)
    value_found (suc j) e =
        let b = below-le (pack_value size p (d + 1) 0) ws in
        let l : length (take (suc j) ws) ≡ suc j = length-take-le (suc j) ws (omega arith) in
        let k : suc j - 1 ≡ j = omega arith in
        rw (l, k, slice_get-get_or (take (suc j) ws) j 0 (omega arith), get_or-take (suc j) ws j 0 (omega arith))
        (value-last j (sym e) (omega arith))

-- ---- a new value

module _ (size : ℕ) (pos : 0 < size) (w : ℕ) where
  key_below : (x : ℕ) → x < w / size * size → x / size < w / size
  key_below x h = (div-lt_iff_lt-mul {k = size} {x = x} {y = w / size} pos).1 h

  key_from : (x : ℕ) → w / size * size ≤ x → w / size ≤ x / size
  key_from x h = (le-div_iff_mul-le {k = size} {x = w / size} {y = x} pos).1 h

  -- rows of earlier points and days are passed by
  record_pass : (x : ℕ) (xs : List ℕ) → x / size < w / size → record_row size w (x ∷ xs) ≡ x ∷ record_row size w xs
  record_pass x xs h =
      let a : eqb (x / size) (w / size) ≡ false = omega (arith, tests) in
      let b : ltb w x ≡ false = cases (ltb w x)
      (λ t. let z = div_le_div size pos w x (omega (arith, tests)) in absurd (omega arith))
      (λ t. t) in
      rw (record_cons, a, b)

  record_same : (ws : List ℕ) → let at = rows_below (w / size * size) ws in
      at < length ws → get_or ws at 0 / size ≡ w / size → record_row size w ws ≡ set ws at w
  unfolding rows_below
  record_same [] l e = absurd (not-suc-le-zero l)
  record_same (x ∷ xs) l e = cases (ltb x (w / size * size))
      (λ t. let l' : suc (rows_below (w / size * size) xs) < suc (length xs) = rw t at l in
      let e' : get_or xs (rows_below (w / size * size) xs) 0 / size ≡ w / size = rw t at e in
      rw (record_pass x xs (key_below x (ltb-true _ _ t)), t) (ap (λ (r : List ℕ). x ∷ r) (record_same xs (le_of_suc-le-suc l') e')))
      (λ t. let e' : x / size ≡ w / size = rw t at e in rw (record_cons, t, eq-eqb _ _ e'))

  record_new : (ws : List ℕ) → let at = rows_below (w / size * size) ws in
      (at < length ws → get_or ws at 0 / size ≡ w / size → ⊥) → record_row size w ws ≡ put_in at w ws
  unfolding rows_below put_in
  record_new [] h = record_nil size w
  record_new (x ∷ xs) h = cases (ltb x (w / size * size))
      (λ t. let at = rows_below (w / size * size) xs in
      let h' : suc at < suc (length xs) → get_or xs at 0 / size ≡ w / size → ⊥ = rw t at h in
      rw (record_pass x xs (key_below x (ltb-true _ _ t)), t) (ap (λ (r : List ℕ). x ∷ r) (record_new xs (λ l. h' (suc-le-suc l)))))
      (λ t. let h' : 0 < suc (length xs) → x / size ≡ w / size → ⊥ = rw t at h in
      let ne = h' (omega arith) in
      let k = key_from x (ltb-false _ _ t) in
      let u : ltb w x ≡ true = cases (ltb w x)
      (λ v. v)
      (λ v. let z = div_le_div size pos x w (omega (arith, tests)) in absurd (ne (omega arith))) in
      rw (record_cons, t, ne_eqb _ _ ne, u))

-- ---- a new value in the whole table, at the place that the search found

module _ (size : ℕ) (pos : 0 < size) (w : ℕ) {xs : List ℕ} {n at : ℕ} (c : ClearBehind xs n)
    (found : at ≡ rows_below (w / size * size) (take n xs)) where
  pub record_replaced : at < n → get_or xs at 0 / size ≡ w / size → Changed (record_row size w (take n xs)) (set xs at w) n
  record_replaced h e =
      let l = rows_long xs n c in
      let f = found in
      let s : record_row size w (take n xs) ≡ set (take n xs) at w
      = record_same size pos w (take n xs) (omega arith) (rw (← f, get_or-take n xs at 0 h) e) ∙ rw (← f) in
      record { is = rw s (table_set xs n c at w h); count = rw s (sym (length-set (take n xs) at w ∙ l)) }

  module _ (new : at < n → get_or xs at 0 / size ≡ w / size → ⊥) where
    put_new : record_row size w (take n xs) ≡ put_in at w (take n xs)
    put_new =
        let l = rows_long xs n c in
        let f = found in
        let there = rows_below (w / size * size) (take n xs) in
        let k : there < length (take n xs) → get_or (take n xs) there 0 / size ≡ w / size → ⊥
        = λ h e. let h' : at < n = omega arith in
        let e' : get_or xs at 0 / size ≡ w / size = rw (← f, get_or-take n xs at 0 h') at e in
        new h' e' in
        record_new size pos w (take n xs) k ∙ rw (← f)

    pub record_longer : length (record_row size w (take n xs)) ≡ n + 1
    record_longer =
        let l = rows_long xs n c in
        let b = below-le (w / size * size) (take n xs) in
        rw put_new (length_put at w (take n xs) (omega arith) ∙ rw l (omega arith))

    pub record_put : (zs : List ℕ) → zs ≡ (table_of (put_in at w (take n xs))).words → Changed (record_row size w (take n xs)) zs (n + 1)
    record_put zs z = record { is = rw (← put_new) at z; count = sym record_longer }
