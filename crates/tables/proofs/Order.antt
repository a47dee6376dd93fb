-- Rows in order, by place and by recursion.
use Prim.Native.Nat.{ℕ, zero, suc, ◌/◌, ◌≤◌, ◌<◌, zero-le, suc-le-suc}
use mathlib.Core.Path.{◌≡◌, ap}
use mathlib.Core.Bool.{true, false}
use mathlib.Core.List.{List, [], ◌∷◌}
use lib.Dec.{ltb}
use lib.ListN.{length, get_or}
use native.Mathlib.Omega.{arith}
use native.Mathlib.Nat.{le_refl, le_trans, le_of_suc-le-suc, not-suc-le-zero, le-div_iff_mul-le, div-mul-le_self}
use borrow.Author.Tests.{ltb-true}
use Rattle.std.specs.List.Sorted.{IsPartitionPoint, IsPartitionedBy}
use Rattle.std.proofs.lemmas.List.Sorted.{IsPartitionedBy-ltb}
use Rattle.std.proofs.lemmas.Grind.{get_or_default_zero}
use Rattle.rules.proofs.Tests.{tests, cases}
use Rattle.rules.specs.Order.{from, Run, done, next}
use Rattle.rules.proofs.Words.{from_lt}
use Rattle.tables.specs.Order.{Rising, nil, row, InOrder}
use Rattle.tables.specs.Search.{rows_below}

-- ---- by place

module _ (key : ℕ → ℕ) where
  pub rising_lower : {j k : ℕ} {ws : List ℕ} → j ≤ k → Rising key k ws → Rising key j ws
  rising_lower h nil = nil
  rising_lower {j} h (row {w = w} i m) = let z : j ≤ key w = omega arith in row z m

  pub rising_from : {k : ℕ} {ws : List ℕ} → Rising key k ws → (i : ℕ) → i < length ws → k ≤ key (get_or ws i 0)
  rising_from nil i h = absurd (not-suc-le-zero h)
  rising_from (row j m) zero h = j
  rising_from (row j m) (suc i) h = let z = rising_from m i (le_of_suc-le-suc h) in omega arith

  pub rising_le : {k : ℕ} {ws : List ℕ} → Rising key k ws → (i j : ℕ) → i ≤ j → j < length ws → key (get_or ws i 0) ≤ key (get_or ws j 0)
  rising_le nil i j h l = absurd (not-suc-le-zero l)
  rising_le (row a m) zero zero h l = le_refl _
  rising_le (row a m) zero (suc j) h l = let z = rising_from m j (le_of_suc-le-suc l) in omega arith
  rising_le (row a m) (suc i) zero h l = absurd (not-suc-le-zero h)
  rising_le (row a m) (suc i) (suc j) h l = rising_le m i j (le_of_suc-le-suc h) (le_of_suc-le-suc l)

-- so they are parted at any word, and the place where they part is the number of rows below
pub parted : (x : ℕ) {ws : List ℕ} → InOrder ws → IsPartitionedBy (λ w. ltb w x) ws
parted x {ws} m = IsPartitionedBy-ltb (λ w. w) ws x (λ i j d h l.
    let k : i < length ws = omega arith in
    rw (get_or_default_zero ws i d k, get_or_default_zero ws j d l) (rising_le (λ w. w) m i j h l))

pub below-is : (x : ℕ) (ws : List ℕ) (r : ℕ) → r ≤ length ws → ((k : ℕ) → k < r → ltb (get_or ws k 0) x ≡ true)
    → ((k : ℕ) → r ≤ k → k < length ws → ltb (get_or ws k 0) x ≡ false) → r ≡ rows_below x ws
unfolding rows_below
below-is x [] r h b a = omega arith
below-is x (y ∷ ys) zero h b a = rw (a 0 zero-le (omega arith))
below-is x (y ∷ ys) (suc r) h b a =
    rw (b 0 (omega arith))
    (ap suc (below-is x ys r (le_of_suc-le-suc h) (λ k l. b (suc k) (suc-le-suc l)) (λ k l m. a (suc k) (suc-le-suc l) (suc-le-suc m))))

pub parts-below : (x : ℕ) (ws : List ℕ) (r : ℕ) → r ≤ length ws
    → IsPartitionPoint (λ w. ltb w x ≡ true) (λ w. ltb w x ≡ false) ws r → r ≡ rows_below x ws
parts-below x ws r h p = below-is x ws r h (λ k l. p.0 k 0 zero-le l) (λ k l m. p.1 k 0 l m)

pub below-le : (x : ℕ) (ws : List ℕ) → rows_below x ws ≤ length ws
unfolding rows_below
below-le x [] = zero-le
below-le x (w ∷ ws) = cases (ltb w x) (λ t. rw t (suc-le-suc (below-le x ws))) (λ t. rw t zero-le)

-- ---- the three orders

-- periods in order and apart are strictly increasing words
run_above : {k : ℕ} {ws : List ℕ} → Run k ws → (w : ℕ) → from w < k → Rising (λ v. v) (suc w) ws
run_above done w h = nil
run_above (next {w = v} i j c r) w h = row (from_lt w v (omega arith)) (run_above r v (omega arith))

pub run_rising : {k : ℕ} {ws : List ℕ} → Run k ws → Rising (λ v. v) 0 ws
run_rising done = nil
run_rising (next {w = w} i j c r) = row zero-le (run_above r w j)

module _ (size : ℕ) (pos : 0 < size) where
  pub div_le_div : (a b : ℕ) → a ≤ b → a / size ≤ b / size
  div_le_div a b h = (le-div_iff_mul-le {k = size} {x = a / size} {y = b} pos).1 (le_trans (div-mul-le_self a size) h)

  -- dated values in order by point and day are strictly increasing words
  values_above : {k : ℕ} {ws : List ℕ} → Rising (λ v. v / size) k ws → (w : ℕ) → w / size < k → Rising (λ v. v) (suc w) ws
  values_above nil w h = nil
  values_above (row {w = v} i m) w h =
      let z : w < v = cases (ltb w v) (λ t. ltb-true w v t) (λ t. let y = div_le_div v w (omega (arith, tests)) in absurd (omega arith)) in
      row z (values_above m v (omega arith))

  pub values_rising : {k : ℕ} {ws : List ℕ} → Rising (λ v. v / size) k ws → Rising (λ v. v) 0 ws
  values_rising nil = nil
  values_rising (row {w = w} i m) = row zero-le (values_above m w (omega arith))

-- a greater word has no fewer rows below it
pub below_mono : (x y : ℕ) → x ≤ y → (ws : List ℕ) → rows_below x ws ≤ rows_below y ws
unfolding rows_below
below_mono x y h [] = zero-le
below_mono x y h (w ∷ ws) = cases (ltb w x)
    (λ t. let u : ltb w y ≡ true = omega (arith, tests) in rw (t, u) (suc-le-suc (below_mono x y h ws)))
    (λ t. rw t zero-le)

-- the rows before the place are below the word, the others are not
pub below_at : (x : ℕ) (ws : List ℕ) (i : ℕ) → i < rows_below x ws → get_or ws i 0 < x
unfolding rows_below
below_at x [] i h = absurd (not-suc-le-zero h)
below_at x (w ∷ ws) zero h = cases (ltb w x)
    (λ t. ltb-true w x t)
    (λ t. let h' : 0 < 0 = rw t at h in absurd (not-suc-le-zero h'))
below_at x (w ∷ ws) (suc i) h = cases (ltb w x)
    (λ t. let h' : suc i < suc (rows_below x ws) = rw t at h in below_at x ws i (le_of_suc-le-suc h'))
    (λ t. let h' : suc i < 0 = rw t at h in absurd (not-suc-le-zero h'))

pub above_at : (x : ℕ) {k : ℕ} {ws : List ℕ} → Rising (λ w. w) k ws → (i : ℕ) → rows_below x ws ≤ i → i < length ws → x ≤ get_or ws i 0
unfolding rows_below
above_at x nil i h l = absurd (not-suc-le-zero l)
above_at x (row {w = w} {ws = ws} a m) zero h l = cases (ltb w x)
    (λ t. let h' : suc (rows_below x ws) ≤ 0 = rw t at h in absurd (not-suc-le-zero h'))
    (λ t. omega (arith, tests))
above_at x (row {w = w} {ws = ws} a m) (suc i) h l = cases (ltb w x)
    (λ t. let h' : suc (rows_below x ws) ≤ suc i = rw t at h in above_at x m i (le_of_suc-le-suc h') (le_of_suc-le-suc l))
    (λ t. let z = rising_from (λ v. v) m i (le_of_suc-le-suc l) in omega (arith, tests))
