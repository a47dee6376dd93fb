-- Lines over any terms and facts, and so whichever states count.
use mathlib.Core.Path.{◌≡◌, refl, sym, ap, ◌∙◌}
use Prim.Native.Nat.{ℕ, zero, suc, ◌+◌, ◌≤◌, ◌<◌}
use mathlib.Core.Bool.{not, and-false}
use lib.IntN.{pos, ◌*ℤ◌}
use lib.Dec.{eqb}
use native.Mathlib.Omega.{arith}
use borrow.Author.Tests.{eqb-true, ne_eqb}
use Rattle.integers.specs.Sums.{sum_to}
use Rattle.integers.proofs.Sums.{sum_cong, sum-zero, sum_swap, sum_one}
use Rattle.rules.proofs.Tests.{cases, eqb_ne}
use Rattle.rules.specs.Lines.{Measure, Facts, Terms, energy_on, charge, charged_to, owed, owed_by_holder, point_line, line}

-- two facts say the same of a point on the month's days, and of its state that much, whether it counts
pub record SameAt (t : Terms) (f g : Facts) (p : ℕ) : Type 0 where
  pub holder : (i : ℕ) → i < t.days → f.holder p (t.first + i) ≡ g.holder p (t.first + i)
  pub counts : (i : ℕ) → i < t.days → t.counts (f.state p (t.first + i)) ≡ t.counts (g.state p (t.first + i))
  pub quantity : (e i : ℕ) → i < t.days → f.quantity p e (t.first + i) ≡ g.quantity p e (t.first + i)
  pub energy : (i h : ℕ) → i < t.days → h < t.hours (t.first + i) → f.energy p (t.first + i) h ≡ g.energy p (t.first + i) h

pub same_sym : {t : Terms} {f g : Facts} {p : ℕ} → SameAt t f g p → SameAt t g f p
same_sym a =
    record {
      holder = λ i k. sym (a.holder i k);
      counts = λ i k. sym (a.counts i k);
      quantity = λ e i k. sym (a.quantity e i k);
      energy = λ i h k l. sym (a.energy i h k l);
    }

pub same_trans : {t : Terms} {f g h : Facts} {p : ℕ} → SameAt t f g p → SameAt t g h p → SameAt t f h p
same_trans a b =
    record {
      holder = λ i k. a.holder i k ∙ b.holder i k;
      counts = λ i k. a.counts i k ∙ b.counts i k;
      quantity = λ e i k. a.quantity e i k ∙ b.quantity e i k;
      energy = λ i h k l. a.energy i h k l ∙ b.energy i h k l;
    }

pub charge_cong : (t : Terms) (f g : Facts) (m : Measure) (p e d : ℕ) → f.quantity p e d ≡ g.quantity p e d
    → ((h : ℕ) → h < t.hours d → f.energy p d h ≡ g.energy p d h) → charge t f m p e d ≡ charge t g m p e d
unfolding charge energy_on
charge_cong t f g Measure.quantity p e d q h =
    cc (sum_cong (λ i. pos (f.energy p d i)) (λ i. pos (g.energy p d i)) (t.hours d) (λ i k. ap pos (h i k)))
charge_cong t f g Measure.amount p e d q h =
    cc (sum_cong (λ i. pos (f.energy p d i) *ℤ t.price e d i) (λ i. pos (g.energy p d i) *ℤ t.price e d i) (t.hours d)
    (λ i k. ap (λ x. pos x *ℤ t.price e d i) (h i k)))

module _ (t : Terms) (f g : Facts) (m : Measure) (s e : ℕ) where
  pub owed_cong : (p i : ℕ) → i < t.days → SameAt t f g p
      → owed t f m s p e (t.first + i) ≡ owed t g m s p e (t.first + i)
  unfolding owed charged_to
  owed_cong p i k a =
      cc (
        a.holder i k,
        a.counts i k,
        a.quantity e i k,
        charge_cong t f g m p e (t.first + i) (a.quantity e i k) (λ h l. a.energy i h k l),
      )

  pub point_line_cong : (p : ℕ) → SameAt t f g p → point_line t f m s p e ≡ point_line t g m s p e
  unfolding point_line
  point_line_cong p a = sum_cong _ _ t.days (λ i k. owed_cong p i k a)

  pub line_cong : ((p : ℕ) → p < t.points → SameAt t f g p) → line t f m s e ≡ line t g m s e
  unfolding line
  line_cong a = sum_cong _ _ t.points (λ p k. point_line_cong p (a p k))

-- a supplier who does not hold the point on a day is owed nothing
pub owed_none : (t : Terms) (f : Facts) (m : Measure) (s p e d : ℕ) → (f.holder p d ≡ s → ⊥) → owed t f m s p e d ≡ pos 0
unfolding owed charged_to
owed_none t f m s p e d n = rw (ne_eqb (f.holder p d) s n, and-false (not (eqb s 0)))

pub owed_nobody : (t : Terms) (f : Facts) (m : Measure) (p e d : ℕ) → owed t f m 0 p e d ≡ pos 0
unfolding owed charged_to
owed_nobody t f m p e d = refl

pub point_line_none : (t : Terms) (f : Facts) (m : Measure) (s p e : ℕ)
    → ((i : ℕ) → i < t.days → f.holder p (t.first + i) ≡ s → ⊥) → point_line t f m s p e ≡ pos 0
unfolding point_line
point_line_none t f m s p e n = sum-zero _ t.days (λ i k. owed_none t f m s p e (t.first + i) (n i k))

-- over the suppliers, a day's part is what is owed by whoever holds the point
pub owed_all : (t : Terms) (f : Facts) (m : Measure) (p e d n : ℕ) → f.holder p d ≤ n
    → sum_to (λ s. owed t f m (suc s) p e d) n ≡ owed_by_holder t f m p e d
unfolding owed_by_holder
owed_all t f m p e d n k = go (f.holder p d) refl
  where
    go : (h : ℕ) → f.holder p d ≡ h → sum_to (λ s. owed t f m (suc s) p e d) n ≡ owed_by_holder t f m p e d
    go zero q =
        sum-zero _ n (λ i j. owed_none t f m (suc i) p e d (λ r. omega arith)) ∙ rw q (sym (owed_nobody t f m p e d))
    go (suc h) q =
        sum_one (λ s. owed t f m (suc s) p e d) h n (omega arith) (λ i j r. owed_none t f m (suc i) p e d (λ l. r (omega arith)))
        ∙ rw (← q)

pub lines-total : (t : Terms) (f : Facts) (m : Measure) (e n : ℕ)
    → ((p i : ℕ) → p < t.points → i < t.days → f.holder p (t.first + i) ≤ n)
    → sum_to (λ s. line t f m (suc s) e) n
    ≡ sum_to (λ p. sum_to (λ i. owed_by_holder t f m p e (t.first + i)) t.days) t.points
unfolding line point_line
lines-total t f m e n h =
    sum_swap (λ s p. point_line t f m (suc s) p e) n t.points
    ∙ sum_cong _ _ t.points (λ p k.
    sum_swap (λ s i. owed t f m (suc s) p e (t.first + i)) n t.days
    ∙ sum_cong _ _ t.days (λ i j. owed_all t f m p e (t.first + i) n (h p i k j)))

-- facts that say the same of all points but one, of which the supplier has nothing by either, give the same line
pub line_but : (t : Terms) (f g : Facts) (m : Measure) (s e q : ℕ) → ((p : ℕ) → p < t.points → (p ≡ q → ⊥) → SameAt t f g p)
    → point_line t f m s q e ≡ pos 0 → point_line t g m s q e ≡ pos 0 → line t f m s e ≡ line t g m s e
unfolding line
line_but t f g m s e q a x y = sum_cong _ _ t.points (λ p k. cases (eqb p q)
    (λ c. rw (eqb-true p q c, x, y))
    (λ c. point_line_cong t f g m s e p (a p k (eqb_ne p q c))))
