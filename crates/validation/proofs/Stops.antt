-- Question 14 by the rows of the pair: some day before the day is linked where a row starts before it, and some day from it on where a
-- row ends after it; the rows are in order, so the first and the last decide. By induction over the rows.
use Prim.Native.Nat.{ℕ, zero, suc, ◌+◌, ◌-◌, ◌≤◌, ◌<◌}
use mathlib.Core.Path.{◌≡◌, refl, sym, ◌∙◌}
use mathlib.Core.Bool.{Bool, true, false, not, ◌&&◌, ◌||◌, or-false}
use mathlib.Core.List.{List, [], ◌∷◌}
use lib.Dec.{leb, ltb, eqb}
use lib.ListN.{length, get_or}
use borrow.Author.Tests.{leb-true}
use native.Mathlib.Omega.{arith}
use Rattle.std.proofs.lemmas.Grind.{common_steps}
use Rattle.rules.specs.Sizes.{end_of_days}
use Rattle.rules.specs.Basics.{any_to, all_in, keep}
use Rattle.rules.specs.Rows.{period_first, period_end, of_pair, covers, quantity_on, pair_rows}
use Rattle.rules.specs.World.{Tables, rows_of, linked_on}
use Rattle.rules.specs.Questions.{question14}
use Rattle.rules.proofs.Tests.{tests, cases, both}
use Rattle.rules.specs.Order.{Run, done, next, linked_in, upto}
use Rattle.rules.proofs.Words.{spot, pair_true, covers-is}
use Rattle.rules.proofs.Runs.{linked_nil, linked_cons, linked_quantity, run-keep}
use Rattle.validation.specs.Decided.{ends_in_time, spans_day}

-- ---- a test of some row

unfoldable any_in : (ℕ → Bool) → List ℕ → Bool
any_in f [] = false
any_in f (w ∷ ws) = f w || any_in f ws

unfoldable starts_before : (day row : ℕ) → Bool
starts_before d w = ltb (period_first w) d

unfoldable ends_after : (day row : ℕ) → Bool
ends_after d w = ltb d (period_end w)

-- ---- some day

any-true : (f : ℕ → Bool) (n i : ℕ) → i < n → f i ≡ true → any_to f n ≡ true
unfolding any_to
any-true f zero i h t = absurd (omega arith)
any-true f (suc n) i h t = grind (arith, common_steps, any-true f n i)

any_false : (f : ℕ → Bool) (n : ℕ) → ((i : ℕ) → i < n → f i ≡ false) → any_to f n ≡ false
unfolding any_to
any_false f zero h = refl
any_false f (suc n) h = rw (h n (omega arith)) (any_false f n (λ i k. h i (omega arith)))

any_cong : (f g : ℕ → Bool) (n : ℕ) → ((i : ℕ) → f i ≡ g i) → any_to f n ≡ any_to g n
unfolding any_to
any_cong f g zero h = refl
any_cong f g (suc n) h = rw (h n, any_cong f g n h)

or_swap : (a b c d : Bool) → ((a || b) || (c || d)) ≡ ((a || c) || (b || d))
or_swap a b c d = grind (arith, common_steps)

any_or : (f g : ℕ → Bool) (n : ℕ) → any_to (λ i. f i || g i) n ≡ (any_to f n || any_to g n)
unfolding any_to
any_or f g zero = refl
any_or f g (suc n) = rw (any_or f g n) (or_swap (f n) (g n) (any_to f n) (any_to g n))

ends-cons : (w : ℕ) (ws : List ℕ) → all_in ends_in_time (w ∷ ws) ≡ true → (period_end w ≤ end_of_days) × (all_in ends_in_time ws ≡ true)
unfolding all_in ends_in_time
ends-cons w ws h = let k = both (leb (period_end w) end_of_days) (all_in ends_in_time ws) h in (leb-true _ _ k.0, k.1)

-- ---- the rows of the pair, by a test that says of each row whether it covers one of n days

module _ (p e : ℕ) (day : ℕ → ℕ) (n : ℕ) (test : ℕ → Bool)
    (says : (w : ℕ) → period_first w < period_end w → period_end w ≤ end_of_days
    → any_to (λ i. leb (period_first w) (day i) && ltb (day i) (period_end w)) n ≡ test w) where
  row_linked : (w : ℕ) → period_first w < period_end w → period_end w ≤ end_of_days
      → any_to (λ i. covers p e (day i) w) n ≡ (of_pair p e w && test w)
  row_linked w h k =
      any_cong _ (λ i. of_pair p e w && (leb (period_first w) (day i) && ltb (day i) (period_end w))) n (λ i. covers-is p e (day i) w)
      ∙ cases (of_pair p e w)
      (λ t. rw t (says w h k))
      (λ t. rw t (any_false _ n (λ i l. refl)))

  some_linked : {k : ℕ} {ws : List ℕ} → Run k ws → all_in ends_in_time ws ≡ true
      → any_to (λ i. linked_in ws p e (day i)) n ≡ any_in test (pair_rows p e ws)
  unfolding pair_rows keep any_in
  some_linked done h = any_false _ n (λ i l. linked_nil p e (day i))
  some_linked (next {w = w} {ws = ws} a b c r) h =
      let k = ends-cons w ws h in
      any_cong _ (λ i. covers p e (day i) w || linked_in ws p e (day i)) n (λ i. linked_cons w ws p e (day i))
      ∙ any_or (λ i. covers p e (day i) w) (λ i. linked_in ws p e (day i)) n
      ∙ rw (row_linked w (omega arith) k.0, some_linked r k.1)
      (cases (of_pair p e w) (λ t. rw t) (λ t. rw t))

module _ (a b d : ℕ) (h : a < b) where
  before_says : any_to (λ i. leb a i && ltb i b) d ≡ ltb a d
  before_says = cases (ltb a d)
      (λ t. let x : leb a a ≡ true = omega (arith, tests) in let y : ltb a b ≡ true = omega (arith, tests) in
      rw t (any-true (λ i. leb a i && ltb i b) d a (omega (arith, tests)) (rw (x, y))))
      (λ t. rw t (any_false (λ i. leb a i && ltb i b) d (λ i k. let x : leb a i ≡ false = omega (arith, tests) in rw x)))

  after_says : b ≤ end_of_days → any_to (λ i. leb a (d + i) && ltb (d + i) b) (end_of_days - d) ≡ ltb d b
  after_says k = cases (ltb d b)
      (λ t. let x : leb a (d + (a - d)) ≡ true = omega (arith, tests) in let y : ltb (d + (a - d)) b ≡ true = omega (arith, tests) in
      rw t (any-true (λ i. leb a (d + i) && ltb (d + i) b) (end_of_days - d) (a - d) (omega (arith, tests)) (rw (x, y))))
      (λ t. rw t (any_false (λ i. leb a (d + i) && ltb (d + i) b) (end_of_days - d)
      (λ i l. let y : ltb (d + i) b ≡ false = omega (arith, tests) in cases (leb a (d + i)) (λ u. rw (u, y)) (λ u. rw u))))

-- a stop has a day before it and a day from it on where a row starts before it and a row ends after it
some-rows : (t : Tables) (p e d : ℕ) → Run 0 (rows_of t.links) → all_in ends_in_time (rows_of t.links) ≡ true
    → question14 t p e d ≡ (any_in (starts_before d) (pair_rows p e (rows_of t.links)) && any_in (ends_after d)
    (pair_rows p e (rows_of t.links)))
unfolding question14 linked_on
some-rows t p e d r h =
    let ws = rows_of t.links in
    let x : any_to (λ i. not (eqb (quantity_on ws p e i) 0)) d ≡ any_in (starts_before d) (pair_rows p e ws)
    = any_cong _ (linked_in ws p e) d (λ i. linked_quantity p e i r)
    ∙ some_linked p e (λ i. i) d (starts_before d) (λ w k l. unfold starts_before in before_says (period_first w) (period_end w) d k) r h in
    let y : any_to (λ i. not (eqb (quantity_on ws p e (d + i)) 0)) (end_of_days - d) ≡ any_in (ends_after d) (pair_rows p e ws)
    = any_cong _ (λ i. linked_in ws p e (d + i)) (end_of_days - d) (λ i. linked_quantity p e (d + i) r)
    ∙ some_linked p e (λ i. d + i) (end_of_days - d) (ends_after d)
    (λ w k l. unfold ends_after in after_says (period_first w) (period_end w) d k l) r h in
    rw (x, y)

-- ---- rows of one pair in order: the first starts first, and the last ends last

-- they are all of the pair
keep_all : (f : ℕ → Bool) (ws : List ℕ) → all_in f (keep f ws) ≡ true
unfolding keep all_in
keep_all f [] = refl
keep_all f (w ∷ ws) = grind (arith, common_steps, keep_all f ws)

module _ (p e d : ℕ) where
  pair_cons : (w : ℕ) (ws : List ℕ) → all_in (of_pair p e) (w ∷ ws) ≡ true → (of_pair p e w ≡ true) × (all_in (of_pair p e) ws ≡ true)
  unfolding all_in
  pair_cons w ws h = both (of_pair p e w) (all_in (of_pair p e) ws) h

  -- rows from the day on do not start before it
  none_before : {k : ℕ} {ws : List ℕ} → Run k ws → all_in (of_pair p e) ws ≡ true → spot p e d ≤ k → any_in (starts_before d) ws ≡ false
  unfolding any_in starts_before
  none_before done h l = refl
  none_before (next {w = w} {ws = ws} a b c r) h l =
      let q = pair_cons w ws h in
      let m = pair_true p e w q.0 in
      let x : ltb (period_first w) d ≡ false = omega (arith, tests) in
      rw x (none_before r q.1 (omega arith))

  -- so the first row decides
  first_decides : {k : ℕ} {w : ℕ} {ws : List ℕ} → Run k (w ∷ ws) → all_in (of_pair p e) (w ∷ ws) ≡ true
      → any_in (starts_before d) (w ∷ ws) ≡ ltb (period_first w) d
  unfolding any_in starts_before
  first_decides {w = w} {ws = ws} (next a b c r) h = cases (ltb (period_first w) d)
      (λ t. rw t)
      (λ t. let q = pair_cons w ws h in let m = pair_true p e w q.0 in rw t (none_before r q.1 (omega (arith, tests))))

  -- a row that ends after the day is followed by none that does not: the last row decides
  last_decides : {k : ℕ} (w : ℕ) (ws : List ℕ) → Run k (w ∷ ws) → all_in (of_pair p e) (w ∷ ws) ≡ true
      → any_in (ends_after d) (w ∷ ws) ≡ ltb d (period_end (get_or (w ∷ ws) (length ws) 0))
  unfolding any_in ends_after
  last_decides w [] r h = or-false (ltb d (period_end w))
  last_decides {k = k} w (v ∷ vs) (next a b c (next a' b' c' r)) h =
      let q = pair_cons w (v ∷ vs) h in
      let m = pair_true p e w q.0 in
      let n = pair_true p e v (pair_cons v vs q.1).0 in
      let i = last_decides {k = upto w} v vs (next a' b' c' r) q.1 in
      cases (ltb d (period_end w))
      (λ t. let x : ltb d (period_end v) ≡ true = omega (arith, tests) in rw t (sym (sym i ∙ unfold any_in ends_after in rw x)))
      (λ t. rw t i)

  spans_is : {k : ℕ} (ws : List ℕ) → Run k ws → all_in (of_pair p e) ws ≡ true
      → (any_in (starts_before d) ws && any_in (ends_after d) ws) ≡ spans_day d ws
  unfolding spans_day
  spans_is [] r h = unfold any_in in refl
  spans_is (w ∷ ws) r h =
      let n : length (w ∷ ws) - 1 ≡ length ws = omega arith in
      let l : ltb 0 (length (w ∷ ws)) ≡ true = omega (arith, tests) in
      rw (first_decides r h, last_decides w ws r h, l, n)

-- question 14 is a test of the first and of the last row of the pair
pub stop_is : (t : Tables) (p e d : ℕ) → Run 0 (rows_of t.links) → all_in ends_in_time (rows_of t.links) ≡ true
    → question14 t p e d ≡ spans_day d (pair_rows p e (rows_of t.links))
stop_is t p e d r h =
    some-rows t p e d r h ∙ unfold pair_rows in
    spans_is p e d (keep (of_pair p e) (rows_of t.links)) (run-keep (of_pair p e) r) (keep_all (of_pair p e) (rows_of t.links))
