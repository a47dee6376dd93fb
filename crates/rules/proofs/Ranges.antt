-- Laws of tests over ranges and lists, of lists made by a function, and of lists of one value.
use Prim.Native.Nat.{ℕ, zero, suc, ◌+◌, ◌≤◌, ◌<◌}
use mathlib.Core.Path.{◌≡◌, refl, ap, ap₂, ◌∙◌}
use mathlib.Core.Bool.{Bool, true, false, and-false}
use mathlib.Core.List.{List, [], ◌∷◌}
use Rattle.std.specs.Prelude.{Option, None, Some}
use lib.ListN.{length, get_or, set, replicate, length-append, get_or-append, take, drop}
use lib.Seq.{get_or_at}
use lib.Dec.{leb, eqb}
use borrow.Author.Tests.{eqb-true, leb-true}
use native.Mathlib.Omega.{arith}
use Rattle.rules.specs.Basics.{within, all_to, all_in, list_to, or_else, latest}
use Rattle.rules.proofs.Tests.{tests, cases, both}

pub within_low : (a b x : ℕ) → within a b x ≡ true → a ≤ x
unfolding within
within_low a b x h = leb-true a x (both (leb a x) (leb x b) h).0

pub within-high : (a b x : ℕ) → within a b x ≡ true → x ≤ b
unfolding within
within-high a b x h = leb-true x b (both (leb a x) (leb x b) h).1

pub all_cong : (f g : ℕ → Bool) (n : ℕ) → ((i : ℕ) → i < n → f i ≡ g i) → all_to f n ≡ all_to g n
unfolding all_to
all_cong f g zero h = refl
all_cong f g (suc n) h = rw (all_cong f g n (λ i k. h i (omega arith)), h n (omega arith))

pub all_true : (f : ℕ → Bool) (n : ℕ) → ((i : ℕ) → i < n → f i ≡ true) → all_to f n ≡ true
unfolding all_to
all_true f zero h = refl
all_true f (suc n) h = rw (all_true f n (λ i k. h i (omega arith)), h n (omega arith))

pub all-false : (f : ℕ → Bool) (n i : ℕ) → i < n → f i ≡ false → all_to f n ≡ false
unfolding all_to
all-false f zero i k h = absurd (omega arith)
all-false f (suc n) i k h = cases (eqb i n)
    (λ t. let z : f n ≡ false = rw (eqb-true i n t) at h in rw z (and-false (all_to f n)))
    (λ t. rw (all-false f n i (omega (arith, tests)) h))

pub all-at : (f : ℕ → Bool) (n : ℕ) → all_to f n ≡ true → (i : ℕ) → i < n → f i ≡ true
unfolding all_to
all-at f zero h i k = absurd (omega arith)
all-at f (suc n) h i k =
    let m = both (all_to f n) (f n) h in
    cases (eqb i n)
    (λ t. rw (eqb-true i n t) m.1)
    (λ t. all-at f n m.0 i (omega (arith, tests)))

-- one more number passed
pub one_more : (f : ℕ → Bool) (i : ℕ) → ((k : ℕ) → k < i → f k ≡ true) → f i ≡ true → (k : ℕ) → k < i + 1 → f k ≡ true
one_more f i h t k l = cases (eqb k i) (λ e. rw (eqb-true k i e) t) (λ e. h k (omega (arith, tests)))

-- ---- every entry of a list

module _ {A : Type 0} where
  pub all_set : (ok : A → Bool) (l : List A) (i : ℕ) (a : A) → ok a ≡ true → all_in ok l ≡ true → all_in ok (set l i a) ≡ true
  unfolding all_in
  all_set ok [] i a h k = refl
  all_set ok (x ∷ xs) zero a h k = rw (h, (both (ok x) _ k).1)
  all_set ok (x ∷ xs) (suc i) a h k = let m = both (ok x) _ k in rw (m.0, all_set ok xs i a h m.1)

  pub all_same : (ok : A → Bool) (n : ℕ) (a : A) → ok a ≡ true → all_in ok (replicate n a) ≡ true
  unfolding all_in
  all_same ok zero a h = refl
  all_same ok (suc n) a h = rw (h, all_same ok n a h)

  pub get_d_same : (n i : ℕ) (a : A) → get_or (replicate n a) i a ≡ a
  get_d_same zero i a = refl
  get_d_same (suc n) zero a = refl
  get_d_same (suc n) (suc i) a = get_d_same n i a

  -- an entry, or what stands for one past the end
  pub all_get_d : (ok : A → Bool) (l : List A) (i : ℕ) (a : A) → ok a ≡ true → all_in ok l ≡ true → ok (get_or l i a) ≡ true
  unfolding all_in
  all_get_d ok [] i a h k = h
  all_get_d ok (x ∷ xs) zero a h k = (both (ok x) _ k).0
  all_get_d ok (x ∷ xs) (suc i) a h k = all_get_d ok xs i a h (both (ok x) _ k).1

  -- ---- a list made by a function

  pub length-list_to : (f : ℕ → A) (n : ℕ) → length (list_to f n) ≡ n
  unfolding list_to
  length-list_to f zero = refl
  length-list_to f (suc n) = length-append (list_to f n) (f n ∷ []) ∙ rw (length-list_to f n) (omega arith)

  pub get_d_list_to : (f : ℕ → A) (n i : ℕ) (d : A) → i < n → get_or (list_to f n) i d ≡ f i
  unfolding list_to
  get_d_list_to f zero i d h = absurd (omega arith)
  get_d_list_to f (suc n) i d h = cases (eqb i n)
      (λ e. rw (eqb-true i n e) (get_or_at (list_to f n) (f n) [] d n (length-list_to f n)))
      (λ e. let k : i < n = omega (arith, tests) in
      get_or-append (list_to f n) (f n ∷ []) d i (rw (length-list_to f n) k) ∙ get_d_list_to f n i d k)

-- ---- the latest of dated values

pub latest_cong : (f g : ℕ → Option ℕ) (d : ℕ) → ((i : ℕ) → f i ≡ g i) → latest f d ≡ latest g d
unfolding latest
latest_cong f g zero h = ap (λ x. or_else x 0) (h zero)
latest_cong f g (suc d) h = ap₂ or_else (h (suc d)) (latest_cong f g d h)

pub latest_none : (d : ℕ) → latest (λ i. None) d ≡ 0
unfolding latest or_else
latest_none zero = refl
latest_none (suc d) = latest_none d

or_else-high : (o : Option ℕ) (n d : ℕ) → ((v : ℕ) → o ≡ Some v → v ≤ n) → d ≤ n → or_else o d ≤ n
unfolding or_else
or_else-high None n d h k = k
or_else-high (Some v) n d h k = h v refl

pub latest-high : (f : ℕ → Option ℕ) (n d : ℕ) → ((i v : ℕ) → f i ≡ Some v → v ≤ n) → latest f d ≤ n
unfolding latest
latest-high f n zero h = or_else-high (f zero) n 0 (h zero) (omega arith)
latest-high f n (suc d) h = or_else-high (f (suc d)) n (latest f d) (h (suc d)) (latest-high f n d h)

-- ---- parts of lists

pub all_take : (f : ℕ → Bool) (n : ℕ) (xs : List ℕ) → all_in f xs ≡ true → all_in f (take n xs) ≡ true
unfolding all_in
all_take f zero xs h = refl
all_take f (suc n) [] h = refl
all_take f (suc n) (x ∷ xs) h = let k = both (f x) (all_in f xs) h in rw k.0 (all_take f n xs k.1)

pub all_drop : (f : ℕ → Bool) (n : ℕ) (xs : List ℕ) → all_in f xs ≡ true → all_in f (drop n xs) ≡ true
unfolding all_in
all_drop f zero xs h = h
all_drop f (suc n) [] h = refl
all_drop f (suc n) (x ∷ xs) h = all_drop f n xs (both (f x) (all_in f xs) h).1
