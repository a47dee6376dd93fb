-- The search for the periods of a point and an element: over any rows it reads on to the first beyond; what stands behind that changes
-- nothing; and in rows that are in order what it hands back are the rows of the point and element.
use Prim.Native.Nat.{ℕ, zero, suc, ◌+◌, ◌-◌, ◌≤◌, ◌<◌, zero-le}
use mathlib.Core.Path.{◌≡◌, refl, sym, ap, ◌∙◌}
use mathlib.Core.Bool.{true, false}
use mathlib.Core.List.{List, [], ◌∷◌, ◌++◌}
use lib.Dec.{ltb, eqb}
use lib.ListN.{length, get_or, take, drop, length-drop}
use lib.Seq.{length-take-le, take-suc}
use native.Mathlib.Omega.{arith}
use native.Mathlib.Numerals.{add-one}
use native.Mathlib.Nat.{zero-add, le_refl, le_of_suc-le-suc, not-suc-le-zero}
use borrow.Author.Tests.{lt-ltb, eq-eqb, ltb-true, ltb-false}
use Rattle.rules.specs.Basics.{keep}
use Rattle.rules.specs.Sizes.{element_room}
use Rattle.rules.specs.Rows.{pack_period, period_point, period_element, pair_rows}
use Rattle.rules.specs.Queries.{beyond_pair, read_to}
use Rattle.rules.proofs.Tests.{tests, cases}
use Rattle.rules.proofs.Words.{first_lt, element_lt}
use Rattle.tables.specs.Order.{Rising, nil, row}
use Rattle.tables.specs.Search.{rows_below}
use Rattle.tables.proofs.Parts.{take-drop}
use Rattle.tables.proofs.Days.{below-day, from-day}
use Rattle.tables.proofs.RowRange.{Between, keep-past, keep-count, keep-range}
use Rattle.tables.proofs.Pairs.{pair_between}
use Rattle.queries.specs.PairSearch.{before_pair, pair_place, up_to_beyond, searched_place, searched_part, PairFound}

-- the first rows are read, none of them is beyond, and so many of them stand before the point and element
pub record RowsRead (p e : ℕ) (rows : List ℕ) (place read : ℕ) : Type 0 where
  pub up : read ≤ length (up_to_beyond p e rows)
  pub within : read ≤ length rows
  pub from : place ≡ pair_place p e (take read rows)
  pub few : place ≤ read

module _ (p e : ℕ) where
  -- ---- any rows: the first i are read, and none of them is beyond

  pub rows_none : (ws : List ℕ) → RowsRead p e ws 0 0
  unfolding pair_place keep
  rows_none ws = record { up = zero-le; within = zero-le; from = refl; few = zero-le }

  up_more : (ws : List ℕ) (i : ℕ) → i ≤ length (up_to_beyond p e ws) → i < length ws → beyond_pair p e (get_or ws i 0) ≡ false
      → i + 1 ≤ length (up_to_beyond p e ws)
  unfolding up_to_beyond
  up_more [] i h l t = absurd (not-suc-le-zero l)
  up_more (w ∷ ws) zero h l t = rw t (omega arith)
  up_more (w ∷ ws) (suc i) h l t = cases (beyond_pair p e w)
      (λ b. let h' : suc i ≤ 0 = rw b at h in absurd (not-suc-le-zero h'))
      (λ b. let h' : suc i ≤ suc (length (up_to_beyond p e ws)) = rw b at h in
      let m = up_more ws i (le_of_suc-le-suc h') (le_of_suc-le-suc l) t in
      rw b (omega arith))

  -- the next is beyond
  up-here : (ws : List ℕ) (i : ℕ) → i ≤ length (up_to_beyond p e ws) → i < length ws → beyond_pair p e (get_or ws i 0) ≡ true
      → (up_to_beyond p e ws ≡ take i ws) × (i + 1 ≡ read_to p e ws)
  unfolding up_to_beyond read_to
  up-here [] i h l t = absurd (not-suc-le-zero l)
  up-here (w ∷ ws) zero h l t = (rw t, rw t)
  up-here (w ∷ ws) (suc i) h l t = cases (beyond_pair p e w)
      (λ b. let h' : suc i ≤ 0 = rw b at h in absurd (not-suc-le-zero h'))
      (λ b. let h' : suc i ≤ suc (length (up_to_beyond p e ws)) = rw b at h in
      let m = up-here ws i (le_of_suc-le-suc h') (le_of_suc-le-suc l) t in
      let n = m.1 in
      (rw b (ap (λ (l : List ℕ). w ∷ l) m.0), rw b (omega arith)))

  -- there is no next
  up-all : (ws : List ℕ) → length ws ≤ length (up_to_beyond p e ws)
      → (up_to_beyond p e ws ≡ take (length ws) ws) × (length ws ≡ read_to p e ws)
  unfolding up_to_beyond read_to
  up-all [] h = (refl, refl)
  up-all (w ∷ ws) h = cases (beyond_pair p e w)
      (λ b. let h' : suc (length ws) ≤ 0 = rw b at h in absurd (not-suc-le-zero h'))
      (λ b. let h' : suc (length ws) ≤ suc (length (up_to_beyond p e ws)) = rw b at h in
      let m = up-all ws (le_of_suc-le-suc h') in
      (rw b (ap (λ (l : List ℕ). w ∷ l) m.0), rw b (ap suc m.1)))

  -- a row more: how many of it stand before the point and element
  place_snoc : (ws : List ℕ) (w n : ℕ) → pair_place p e (w ∷ []) ≡ n → pair_place p e (ws ++ (w ∷ [])) ≡ pair_place p e ws + n
  unfolding pair_place keep
  place_snoc [] w n h = h ∙ sym (zero-add n)
  place_snoc (v ∷ vs) w n h = let m = place_snoc vs w n h in cases (before_pair p e v) (λ t. rw t (omega arith)) (λ t. rw t m)

  place_more : (ws : List ℕ) (i n : ℕ) → i < length ws → pair_place p e (get_or ws i 0 ∷ []) ≡ n
      → pair_place p e (take (i + 1) ws) ≡ pair_place p e (take i ws) + n
  place_more ws i n l h = rw (add-one, take-suc ws i 0 l) (place_snoc (take i ws) (get_or ws i 0) n h)

  -- what is found where the rows before the first beyond are the first i
  pair_found : (ws : List ℕ) (i place told : ℕ) → i ≤ length ws → place ≤ i → place ≡ pair_place p e (take i ws)
      → (up_to_beyond p e ws ≡ take i ws) × (told ≡ read_to p e ws) → PairFound p e ws place (i - place) told
  unfolding searched_place searched_part
  pair_found ws i place told h l a m =
      let u = m.0 in
      record {
        from = rw u a;
        many = rw (u, ← a, length-drop, length-take-le i ws h);
        part = rw (u, ← a) (take-drop place i ws);
        within = omega arith;
        read = m.1;
      }

  -- ---- what stands behind the first beyond

  module _ (w : ℕ) (beyond : beyond_pair p e w ≡ true) (behind others : List ℕ) where
    pub behind-up : (front : List ℕ) → up_to_beyond p e (front ++ (w ∷ behind)) ≡ up_to_beyond p e (front ++ (w ∷ others))
    unfolding up_to_beyond
    behind-up [] = rw beyond
    behind-up (v ∷ vs) = rw (behind-up vs)

    pub behind-read : (front : List ℕ) → read_to p e (front ++ (w ∷ behind)) ≡ read_to p e (front ++ (w ∷ others))
    unfolding read_to
    behind-read [] = rw beyond
    behind-read (v ∷ vs) = rw (behind-read vs)

    pub behind-place : (front : List ℕ) → searched_place p e (front ++ (w ∷ behind)) ≡ searched_place p e (front ++ (w ∷ others))
    unfolding searched_place
    behind-place front = rw (behind-up front)

    pub behind-part : (front : List ℕ) → searched_part p e (front ++ (w ∷ behind)) ≡ searched_part p e (front ++ (w ∷ others))
    unfolding searched_part
    behind-part front = rw (behind-place front, behind-up front)

    -- so two searches whose rows differ only there find the same
    pub behind-same : (front : List ℕ) (a b c a' b' c' : ℕ)
        → let rows = front ++ (w ∷ behind) in
        let others = front ++ (w ∷ others) in
        PairFound p e rows a b c → PairFound p e others a' b' c'
        → (a ≡ a') × (b ≡ b') × (c ≡ c') × (take b (drop a rows) ≡ take b' (drop a' others))
    behind-same front a b c a' b' c' f g = (
      f.from ∙ behind-place front ∙ sym g.from,
      f.many ∙ ap length (behind-part front) ∙ sym g.many,
      f.read ∙ behind-read front ∙ sym g.read,
      f.part ∙ behind-part front ∙ sym g.part,
    )

  -- ---- by words

  module _ (he : e < element_room) where
    before_between : Between (before_pair p e) 0 (pack_period p e 0 0 0)
    unfolding before_pair
    before_between =
        record {
          order = omega arith;
          before = λ w h. absurd (not-suc-le-zero h);
          inside = λ w h l. let k = below-day p e 0 w l in cases (ltb (period_point w) p)
              (λ t. rw t)
              (λ t. let a = element_lt w in
              let i : period_point w ≡ p = omega (arith, tests) in
              let j : period_element w < e = omega arith in
              rw (t, eq-eqb _ _ i, lt-ltb _ _ j));
          past = λ w h. let k = from-day p e 0 w h in
              let a = first_lt w in
              let b = element_lt w in
              let i : ltb (period_point w) p ≡ false = omega (arith, tests) in
              cases (eqb (period_point w) p)
              (λ t. let j : ltb (period_element w) e ≡ false = omega (arith, tests) in rw (i, t, j))
              (λ t. rw (i, t));
        }

    not_beyond : (w : ℕ) → w < pack_period p (e + 1) 0 0 0 → beyond_pair p e w ≡ false
    unfolding beyond_pair
    not_beyond w h =
        let k = below-day p (e + 1) 0 w h in
        let a = element_lt w in
        let i : ltb p (period_point w) ≡ false = omega (arith, tests) in
        cases (eqb (period_point w) p)
        (λ t. let j : ltb e (period_element w) ≡ false = omega (arith, tests) in rw (i, t, j))
        (λ t. rw (i, t))

    is_beyond : (w : ℕ) → pack_period p (e + 1) 0 0 0 ≤ w → beyond_pair p e w ≡ true
    unfolding beyond_pair
    is_beyond w h =
        let k = from-day p (e + 1) 0 w h in
        let a = first_lt w in
        cases (ltb p (period_point w))
        (λ t. rw t)
        (λ t. let b = element_lt w in
        let i : period_point w ≡ p = omega (arith, tests) in
        let j : e < period_element w = omega arith in
        rw (t, eq-eqb _ _ i, lt-ltb _ _ j))

    -- ---- row by row

    rows_next : {ws : List ℕ} {place i : ℕ} (n : ℕ) → RowsRead p e ws place i → i < length ws
        → get_or ws i 0 < pack_period p (e + 1) 0 0 0 → n ≤ 1 → pair_place p e (get_or ws i 0 ∷ []) ≡ n
        → RowsRead p e ws (place + n) (i + 1)
    rows_next {ws = ws} {i = i} n r l h m k =
        let few = r.few in
        let from = r.from in
        let more = place_more ws i n l k in
        record {
          up = up_more ws i r.up l (not_beyond (get_or ws i 0) h);
          within = omega arith;
          from = omega arith;
          few = omega arith;
        }

    module _ {ws : List ℕ} {place i : ℕ} (r : RowsRead p e ws place i) where
      pub rows_before : i < length ws → get_or ws i 0 < pack_period p e 0 0 0 → RowsRead p e ws (place + 1) (i + 1)
      unfolding pair_place keep
      rows_before l h =
          let o = (pair_between p e he).order in
          rows_next 1 r l (omega arith) (omega arith) (rw (before_between.inside (get_or ws i 0) (omega arith) h))

      pub rows-own : i < length ws → pack_period p e 0 0 0 ≤ get_or ws i 0 → get_or ws i 0 < pack_period p (e + 1) 0 0 0
          → RowsRead p e ws place (i + 1)
      unfolding pair_place keep
      rows-own l h k =
          let z : place + 0 ≡ place = omega arith in
          rw z at (rows_next 0 r l k (omega arith) (rw (before_between.past (get_or ws i 0) h)))

      pub rows_beyond : i < length ws → pack_period p (e + 1) 0 0 0 ≤ get_or ws i 0 → PairFound p e ws place (i - place) (i + 1)
      rows_beyond l h =
          pair_found ws i place (i + 1) r.within r.few r.from (up-here ws i r.up l (is_beyond (get_or ws i 0) h))

      pub rows_all : length ws ≤ i → PairFound p e ws place (i - place) i
      rows_all h =
          let w = r.within in
          let n : length ws ≡ i = omega arith in
          pair_found ws i place i w r.few r.from (rw n at (up-all ws (let u = r.up in omega arith)))

    -- ---- rows in order

    up-below : (ws : List ℕ) → up_to_beyond p e ws ≡ take (rows_below (pack_period p (e + 1) 0 0 0) ws) ws
    unfolding up_to_beyond rows_below
    up-below [] = refl
    up-below (w ∷ ws) = cases (ltb w (pack_period p (e + 1) 0 0 0))
        (λ t. rw (t, not_beyond w (ltb-true _ _ t)) (ap (λ (l : List ℕ). w ∷ l) (up-below ws)))
        (λ t. rw (t, is_beyond w (ltb-false _ _ t)))

    pub place_sorted : {k : ℕ} {ws : List ℕ} → Rising (λ v. v) k ws → searched_place p e ws ≡ pair_place p e ws
    unfolding searched_place up_to_beyond pair_place keep
    place_sorted nil = refl
    place_sorted (row {w = w} i m) = cases (ltb w (pack_period p (e + 1) 0 0 0))
        (λ t. let n = place_sorted m in
        rw (not_beyond w (ltb-true _ _ t)) (cases (before_pair p e w) (λ b. rw b (ap suc n)) (λ b. rw b n)))
        (λ t. let o = (pair_between p e he).order in
        rw (is_beyond w (ltb-false _ _ t))
        (ap length (sym (keep-past before_between (row {k = w} (le_refl w) m) (omega (arith, tests))))))

    pub part_sorted : {k : ℕ} {ws : List ℕ} → Rising (λ v. v) k ws → searched_part p e ws ≡ pair_rows p e ws
    unfolding searched_part pair_rows
    part_sorted {ws = ws} m =
        let from : searched_place p e ws ≡ rows_below (pack_period p e 0 0 0) ws
        = place_sorted m ∙ unfold pair_place in keep-count before_between m (omega arith) in
        rw (from, up-below ws) (sym (take-drop (rows_below (pack_period p e 0 0 0) ws) (rows_below (pack_period p (e + 1) 0 0 0) ws) ws)
        ∙ sym (keep-range (pair_between p e he) m))
