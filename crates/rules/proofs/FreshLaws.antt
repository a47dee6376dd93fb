-- What a message changes in fresh settlement, and that tables which agree with it give the same facts.
use mathlib.Core.Path.{◌≡◌, refl, sym, ap}
use Prim.Native.Nat.{ℕ, ◌+◌, ◌<◌}
use mathlib.Core.Bool.{Bool, false}
use Rattle.std.specs.Prelude.{Some}
use lib.Dec.{eqb}
use native.Mathlib.Omega.{arith}
use borrow.Author.Tests.{ne_eqb}
use Rattle.rules.specs.declared.Body.{Body}
use Rattle.rules.specs.declared.Body.TheVariants.{Link, Stop, Quantity, Holder, State, Reading, Block, Round}
use Rattle.rules.specs.Lines.{Terms}
use Rattle.rules.specs.World.{Opening, Tables, month_first, hours_of, terms_by, holder_on, state_on, facts_of}
use Rattle.rules.specs.Questions.{point_of}
use Rattle.rules.specs.Fresh.{Fresh, here, relinked, heard, fresh_facts}
use Rattle.rules.proofs.Ranges.{latest_cong}
use Rattle.rules.proofs.LineLaws.{SameAt}
use Rattle.rules.proofs.Agree.{Agree}

-- fresh settlement says the same of a point
pub record Unmoved (s v : Fresh) (r : ℕ) : Type 0 where
  pub holder : (d : ℕ) → s.holder r d ≡ v.holder r d
  pub state : (d : ℕ) → s.state r d ≡ v.state r d
  pub reading : (d h : ℕ) → s.reading r d h ≡ v.reading r d h
  pub quantity : (e d : ℕ) → s.quantity r e d ≡ v.quantity r e d

unmoved_refl : (s : Fresh) (r : ℕ) → Unmoved s s r
unmoved_refl s r = record { holder = λ d. refl; state = λ d. refl; reading = λ d h. refl; quantity = λ e d. refl }

elsewhere : (p r : ℕ) → (Some p ≡ Some r → ⊥) → eqb r p ≡ false
elsewhere p r n = ne_eqb r p (λ q. n (ap Some (sym q)))

-- a message says nothing of another point
pub heard_other : (o : Opening) (s : Fresh) (b : Body) (r : ℕ) → (point_of b ≡ Some r → ⊥) → Unmoved s (heard o s b) r
unfolding heard point_of here relinked
heard_other o s (Link p e a q) r n =
    record { holder = λ d. refl; state = λ d. refl; reading = λ d h. refl; quantity = λ x d. rw (elsewhere p r n) }
heard_other o s (Stop p e a) r n =
    record { holder = λ d. refl; state = λ d. refl; reading = λ d h. refl; quantity = λ x d. rw (elsewhere p r n) }
heard_other o s (Quantity p e a q) r n =
    record { holder = λ d. refl; state = λ d. refl; reading = λ d h. refl; quantity = λ x d. rw (elsewhere p r n) }
heard_other o s (Holder p a h) r n =
    record { holder = λ d. rw (elsewhere p r n); state = λ d. refl; reading = λ d x. refl; quantity = λ e d. refl }
heard_other o s (State p a v) r n =
    record { holder = λ d. refl; state = λ d. rw (elsewhere p r n); reading = λ d x. refl; quantity = λ e d. refl }
heard_other o s (Reading p a h x) r n =
    record { holder = λ d. refl; state = λ d. refl; reading = λ d y. rw (elsewhere p r n); quantity = λ e d. refl }
heard_other o s (Block p b) r n = unmoved_refl s r
heard_other o s Round r n = unmoved_refl s r

pub same-unmoved : (t : Terms) (s v : Fresh) (r : ℕ) → Unmoved s v r → SameAt t (fresh_facts s) (fresh_facts v) r
unfolding fresh_facts
same-unmoved t s v r u =
    record {
      holder = λ i k. latest_cong _ _ (t.first + i) u.holder;
      counts = λ i k. ap t.counts (latest_cong _ _ (t.first + i) u.state);
      quantity = λ e i k. u.quantity e (t.first + i);
      energy = λ i h k l. u.reading (t.first + i) h;
    }

-- tables that agree with fresh settlement give its facts, whichever states count
pub same-agree : (counts : ℕ → Bool) (o : Opening) (t : Tables) (s : Fresh) → Agree o t s → (p : ℕ) → p < o.points
    → SameAt (terms_by counts o) (facts_of o t) (fresh_facts s) p
unfolding fresh_facts facts_of holder_on state_on terms_by hours_of
same-agree counts o t s a p j =
    record {
      holder = λ i k. latest_cong _ _ (month_first o + i) (a.holder p);
      counts = λ i k. ap counts (latest_cong _ _ (month_first o + i) (a.state p));
      quantity = λ e i k. a.quantity p e (month_first o + i);
      energy = λ i h k l. a.reading p (month_first o + i) h j (omega arith) (omega arith) l;
    }
