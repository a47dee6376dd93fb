-- Periods in order and apart, as one recursion, and what they say of a day.
use Prim.Native.Nat.{ℕ, ◌≤◌, ◌<◌}
use mathlib.Core.Path.{◌≡◌, refl, sym, ◌∙◌}
use mathlib.Core.Bool.{true, false, not, ◌&&◌, ◌||◌, cond, false≢true, and-false, Bool}
use mathlib.Core.List.{List, [], ◌∷◌}
use lib.Dec.{leb, ltb, eqb}
use native.Mathlib.Omega.{arith}
use Rattle.rules.specs.Rows.{period_point, period_element, period_first, period_end, period_quantity, of_pair}
use Rattle.rules.specs.Rows.{covers, quantity_on, starts_on}
use Rattle.rules.proofs.Tests.{tests, cases, both}
use Rattle.rules.specs.Order.{from, upto, Run, done, next, linked_in}
use Rattle.rules.proofs.Words.{spot, pair_true, pair_is, covers-is}
use Rattle.rules.proofs.Clauses.{quantity-nil, quantity-cons, starts_nil, starts_cons}
use Rattle.rules.specs.Basics.{keep}

pub weaken : {j k : ℕ} {ws : List ℕ} → j ≤ k → Run k ws → Run j ws
weaken h done = done
weaken {j} h (next {w = w} a b c r) = let z : j ≤ from w = omega arith in next z b c r

pub linked_cons : (w : ℕ) (ws : List ℕ) (p e d : ℕ) → linked_in (w ∷ ws) p e d ≡ (covers p e d w || linked_in ws p e d)
unfolding linked_in
linked_cons w ws p e d = refl

pub linked_nil : (p e d : ℕ) → linked_in [] p e d ≡ false
unfolding linked_in
linked_nil p e d = refl

-- the end of the first row that covers the day
pub end_in : List ℕ → ℕ → ℕ → ℕ → ℕ
end_in [] p e d = 0
end_in (w ∷ ws) p e d = cond (covers p e d w) (period_end w) (end_in ws p e d)

pub end-cons : (w : ℕ) (ws : List ℕ) (p e d : ℕ) → end_in (w ∷ ws) p e d ≡ cond (covers p e d w) (period_end w) (end_in ws p e d)
unfolding end_in
end-cons w ws p e d = refl

-- a day is linked if its quantity is not 0
pub linked_quantity : {k : ℕ} {ws : List ℕ} (p e d : ℕ) → Run k ws → not (eqb (quantity_on ws p e d) 0) ≡ linked_in ws p e d
linked_quantity p e d done = simp (quantity-nil, linked_nil)
linked_quantity p e d (next {w = w} a b c r) = simp (quantity-cons, linked_cons)
    (cases (covers p e d w)
    (λ h. let z : eqb (period_quantity w) 0 ≡ false = omega (arith, tests) in simp (h, z))
    (λ h. simp (h, linked_quantity p e d r)))

pub covered : (p e d w : ℕ) → covers p e d w ≡ true
    → (period_point w ≡ p) × (period_element w ≡ e) × (period_first w ≤ d) × (d < period_end w)
covered p e d w h =
    let k = both (of_pair p e w) (leb (period_first w) d && ltb d (period_end w)) (sym (covers-is p e d w) ∙ h) in
    let l = both (leb (period_first w) d) (ltb d (period_end w)) k.1 in
    let m = pair_true p e w k.0 in
    (m.0, m.1, omega (arith, tests), omega (arith, tests))

-- before the first row no day is linked
pub linked_from : {k : ℕ} {ws : List ℕ} (p e d : ℕ) → Run k ws → linked_in ws p e d ≡ true → k ≤ spot p e d
linked_from p e d done h = absurd (false≢true (sym (linked_nil p e d) ∙ h))
linked_from p e d (next {w = w} a b c r) h =
    cases (covers p e d w)
    (λ t. let k = covered p e d w t in omega arith)
    (λ t. let k = linked_from p e d r (simp (linked_cons, t) at h) in omega arith)

-- nor does one start
pub starts_from : {k : ℕ} {ws : List ℕ} (p e d : ℕ) → Run k ws → starts_on ws p e d ≡ true → k ≤ spot p e d
starts_from p e d done h = absurd (false≢true (sym (starts_nil p e d) ∙ h))
starts_from p e d (next {w = w} a b c r) h =
    cases (of_pair p e w && eqb (period_first w) d)
    (λ t. let k = both (of_pair p e w) (eqb (period_first w) d) t in let m = pair_true p e w k.0 in omega (arith, tests))
    (λ t. let k = starts_from p e d r (simp (starts_cons, t) at h) in omega arith)

-- where the rows begin, a period starts or the day is not linked
pub starts_or_free : {k : ℕ} {ws : List ℕ} (p e d : ℕ) → Run k ws → spot p e d ≤ k
    → (not (starts_on ws p e d) && linked_in ws p e d) ≡ false
starts_or_free p e d done h = simp (starts_nil, linked_nil)
starts_or_free p e d (next {w = w} a b c r) h = simp (starts_cons, linked_cons, covers-is)
    (cases (of_pair p e w)
    (λ o. let m = pair_true p e w o in
    cases (eqb (period_first w) d)
    (λ t. simp (o, t))
    (λ t. let z : leb (period_first w) d ≡ false = omega (arith, tests) in simp (o, t, z, starts_or_free p e d r (omega arith))))
    (λ o. let m : spot p e d ≤ upto w = omega arith in simp (o, starts_or_free p e d r m)))

-- a row of the pair before one that covers the day ends by then
pub ends_by : {ws : List ℕ} (p e d w : ℕ) → Run (upto w) ws → linked_in ws p e d ≡ true → of_pair p e w ≡ true → period_end w ≤ d
ends_by p e d w r h o = let m = pair_true p e w o in let k = linked_from p e d r h in omega arith

-- inside the period that covers d every day is linked, and none starts
pub inside : {k : ℕ} {ws : List ℕ} (p e d x : ℕ) → Run k ws → linked_in ws p e d ≡ true → d < x → x < end_in ws p e d
    → (not (starts_on ws p e x) && linked_in ws p e x) ≡ true
inside p e d x done l h m = absurd (false≢true (sym (linked_nil p e d) ∙ l))
inside p e d x (next {w = w} {ws = ws} a b c r) l h m = cases (covers p e d w)
    (λ t. let i = covered p e d w t in
    let n : x < period_end w = simp (end-cons, t) at m in
    let o = pair_is p e w i.0 i.1 in
    let y : leb (period_first w) x ≡ true = omega (arith, tests) in
    let z : ltb x (period_end w) ≡ true = omega (arith, tests) in
    let z' : eqb (period_first w) x ≡ false = omega (arith, tests) in
    cases (starts_on ws p e x)
    (λ s. let f = starts_from p e x r s in absurd (omega arith))
    (λ s. simp (starts_cons, linked_cons, covers-is, o, y, z, z', s)))
    (λ t. let m' : x < end_in ws p e d = simp (end-cons, t) at m in
    let l' : linked_in ws p e d ≡ true = simp (linked_cons, t) at l in
    let ih = inside p e d x r l' h m' in
    simp (starts_cons, linked_cons, covers-is) (cases (of_pair p e w)
    (λ o. let y = ends_by p e d w r l' o in
    let z : ltb x (period_end w) ≡ false = omega (arith, tests) in
    let z' : eqb (period_first w) x ≡ false = omega (arith, tests) in
    simp (o, z, z', and-false) ih)
    (λ o. simp o ih)))

-- and it ends where the next starts, or where the day is not linked
pub at-end : {k : ℕ} {ws : List ℕ} (p e d : ℕ) → Run k ws → linked_in ws p e d ≡ true
    → (d < end_in ws p e d) × ((not (starts_on ws p e (end_in ws p e d)) && linked_in ws p e (end_in ws p e d)) ≡ false)
at-end p e d done l = absurd (false≢true (sym (linked_nil p e d) ∙ l))
at-end p e d (next {w = w} {ws = ws} a b c r) l = cases (covers p e d w)
    (λ t. let i = covered p e d w t in
    let o = pair_is p e w i.0 i.1 in
    let z : ltb (period_end w) (period_end w) ≡ false = omega (arith, tests) in
    let z' : eqb (period_first w) (period_end w) ≡ false = omega (arith, tests) in
    let f = starts_or_free p e (period_end w) r (omega arith) in
    simp (end-cons, t) (omega arith, simp (starts_cons, linked_cons, covers-is, o, z, z', and-false) f))
    (λ t. let l' : linked_in ws p e d ≡ true = simp (linked_cons, t) at l in
    let ih = at-end p e d r l' in
    simp (end-cons, t) (
      ih.0,
      simp (starts_cons, linked_cons, covers-is) (cases (of_pair p e w)
          (λ o. let y = ends_by p e d w r l' o in
          let n = ih.0 in
          let z : ltb (end_in ws p e d) (period_end w) ≡ false = omega (arith, tests) in
          let z' : eqb (period_first w) (end_in ws p e d) ≡ false = omega (arith, tests) in
          simp (o, z, z', and-false) ih.1)
          (λ o. simp o ih.1)),
    ))

-- ---- some of the rows

pub run-keep : (f : ℕ → Bool) {k : ℕ} {ws : List ℕ} → Run k ws → Run k (keep f ws)
unfolding keep
run-keep f Run.done = Run.done
run-keep f (Run.next {k} {w} {ws} a b q r) = cases (f w)
    (λ t. rw t (Run.next a b q (run-keep f r)))
    (λ t. rw t (weaken (omega arith) (run-keep f r)))
