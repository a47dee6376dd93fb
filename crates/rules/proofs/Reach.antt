-- The days that a period reaches, by the rows and by the start marks.
use Prim.Native.Nat.{ℕ, ◌+◌, ◌-◌, ◌≤◌, ◌<◌, min}
use mathlib.Core.Path.{◌≡◌, refl}
use mathlib.Core.Bool.{true, false, or-true}
use mathlib.Core.List.{List, [], ◌∷◌}
use lib.Dec.{leb, ltb, eqb}
use borrow.Author.Tests.{eq-eqb}
use native.Mathlib.Omega.{arith}
use native.Mathlib.Nat.{le_refl}
use Rattle.rules.specs.Sizes.{end_of_days}
use Rattle.rules.specs.Rows.{period_first, of_pair, quantity_on, starts_on, next_start}
use Rattle.rules.specs.Fresh.{no_start, goes_on}
use Rattle.rules.proofs.Tests.{tests, cases}
use Rattle.rules.proofs.Ranges.{all_true, all-false}
use Rattle.rules.proofs.Clauses.{starts_nil, starts_cons, next-nil, next-cons}
use Rattle.rules.specs.Order.{Run, linked_in}
use Rattle.rules.proofs.Runs.{linked_quantity, end_in, inside, at-end}

-- the days after a that go on from it are those before its period's end
pub goes_on_lem : {k : ℕ} {ws : List ℕ} (p e a d : ℕ) → Run k ws → linked_in ws p e a ≡ true → a ≤ d
    → goes_on (starts_on ws p e) (quantity_on ws p e) a d ≡ ltb d (end_in ws p e a)
unfolding goes_on
goes_on_lem {ws} p e a d r l h = let m = at-end p e a r l in cases (ltb d (end_in ws p e a))
    (λ t. rw t (all_true _ (d - a) (λ i k. rw (linked_quantity p e (a + 1 + i) r)
    (inside p e a (a + 1 + i) r l (omega arith) (omega (arith, tests))))))
    (λ t. let x = end_in ws p e a in
    let s : a + 1 + (x - (a + 1)) ≡ x = omega arith in
    rw t (all-false _ (d - a) (x - (a + 1)) (omega (arith, tests)) (rw (s, linked_quantity p e x r) m.1)))

-- a next start is later, and a day
pub next-after : (p e a : ℕ) (ws : List ℕ) → a < end_of_days → (a < next_start ws p e a) × (next_start ws p e a ≤ end_of_days)
next-after p e a [] h = simp next-nil (h, le_refl _)
next-after p e a (w ∷ ws) h = let ih = next-after p e a ws h in
    simp next-cons (cases (of_pair p e w)
    (λ o. cases (ltb a (period_first w))
    (λ t. simp (o, t) (omega (arith, tests)))
    (λ t. simp (o, t) ih))
    (λ o. simp o ih))

-- no period starts before it
next-clear : (p e a x : ℕ) (ws : List ℕ) → a < x → x < next_start ws p e a → starts_on ws p e x ≡ false
next-clear p e a x [] h m = starts_nil p e x
next-clear p e a x (w ∷ ws) h m = simp starts_cons (cases (of_pair p e w)
    (λ o. cases (ltb a (period_first w))
    (λ t. let n : x < min (period_first w) (next_start ws p e a) = simp (next-cons, o, t) at m in
    let z : eqb (period_first w) x ≡ false = omega (arith, tests) in
    simp (o, z, next-clear p e a x ws h (omega arith)))
    (λ t. let z : eqb (period_first w) x ≡ false = omega (arith, tests) in
    simp (o, z, next-clear p e a x ws h (simp (next-cons, o, t) at m))))
    (λ o. simp (o, next-clear p e a x ws h (simp (next-cons, o) at m))))

-- one starts there, unless it is past the last day
next_starts : (p e a : ℕ) (ws : List ℕ) → next_start ws p e a < end_of_days → starts_on ws p e (next_start ws p e a) ≡ true
next_starts p e a [] m = let n : end_of_days < end_of_days = simp next-nil at m in absurd (omega arith)
next_starts p e a (w ∷ ws) m = simp (starts_cons, next-cons) (cases (of_pair p e w)
    (λ o. cases (ltb a (period_first w))
    (λ t. let n : min (period_first w) (next_start ws p e a) < end_of_days = simp (next-cons, o, t) at m in
    simp (o, t) (cases (leb (period_first w) (next_start ws p e a))
    (λ u. let z : min (period_first w) (next_start ws p e a) ≡ period_first w = omega (arith, tests) in
    simp (z, eq-eqb (period_first w) (period_first w) refl))
    (λ u. let z : min (period_first w) (next_start ws p e a) ≡ next_start ws p e a = omega (arith, tests) in
    simp (z, next_starts p e a ws (omega (arith, tests)), or-true))))
    (λ t. simp (o, t, next_starts p e a ws (simp (next-cons, o, t) at m), or-true)))
    (λ o. simp (o, next_starts p e a ws (simp (next-cons, o) at m))))

-- the days from a with no start after it are those before the next start
pub no_start_lem : (p e a d : ℕ) (ws : List ℕ) → a ≤ d → d < end_of_days → no_start (starts_on ws p e) a d ≡ ltb d (next_start ws p e a)
unfolding no_start
no_start_lem p e a d ws h k = let m = next-after p e a ws (omega arith) in cases (ltb d (next_start ws p e a))
    (λ t. rw t (all_true _ (d - a) (λ i j. rw (next-clear p e a (a + 1 + i) ws (omega arith) (omega (arith, tests))))))
    (λ t. let x = next_start ws p e a in
    let s : a + 1 + (x - (a + 1)) ≡ x = omega arith in
    rw t (all-false _ (d - a) (x - (a + 1)) (omega (arith, tests)) (rw (s, next_starts p e a ws (omega (arith, tests))))))
