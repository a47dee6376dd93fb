-- The search for the earliest day without a holder: some element, place by place, and the days of the month, one by one.
use Prim.Native.Nat.{ℕ, zero, suc, ◌+◌}
use mathlib.Core.Path.{◌≡◌, refl, ap, ap₂, ◌∙◌}
use mathlib.Core.Logic.{◌≢◌}
use mathlib.Core.Bool.{Bool, true, false, not, cond, ◌||◌}
use mathlib.Core.List.{List}
use Rattle.std.specs.Prelude.{Option, Some}
use Rattle.std.specs.List.{list_any, find, range_with_len}
use lib.Dec.{eqb}
use borrow.Author.Tests.{ne_eqb}
use native.Mathlib.Omega.{arith}
use native.Mathlib.Numerals.{add-one}
use Rattle.rules.specs.declared.Lent.{Lent}
use Rattle.rules.specs.Basics.{any_to, first_from}
use Rattle.rules.specs.Rows.{quantity_on}
use Rattle.rules.specs.World.{Opening, Tables, holder_on, state_on, counting_states, linked_on}
use Rattle.rules.specs.Queries.{day_number, lacks_holder}
use Rattle.rules.specs.Lent.{Lists, world_in}
use Rattle.rules.proofs.Parts.{lengths, dated}
use Rattle.tables.proofs.Right.{whole-rows}
use Rattle.queries.specs.Days.{PointAsked}
use Rattle.queries.proofs.Asks.{day_passed}

-- is an element linked to the point that day, by the rows
abbrev pub linked_by : List ℕ → (point day element : ℕ) → Bool
linked_by rows p d e = not (eqb (quantity_on rows p e d) 0)

-- ---- some number below n, as a chain over the numbers finds it

or_swap : (a b c : Bool) → (a || (b || c)) ≡ (b || (a || c))
or_swap true true c = refl
or_swap true false c = refl
or_swap false b c = refl

-- one more number at the front
any_to-front : (f : ℕ → Bool) (n : ℕ) → any_to f (suc n) ≡ (f 0 || any_to (λ i. f (suc i)) n)
unfolding any_to
any_to-front f zero = refl
any_to-front f (suc n) =
    ap (λ (b : Bool). f (suc n) || b) (any_to-front f n) ∙ or_swap (f (suc n)) (f 0) (any_to (λ i. f (suc i)) n)

any_to-from : (f g : ℕ → Bool) (a n : ℕ) → ((i : ℕ) → g i ≡ f (a + i)) → any_to g n ≡ list_any f (range_with_len a n)
unfolding any_to
any_to-from f g a zero h = refl
any_to-from f g a (suc n) h =
    any_to-front g n
    ∙ ap₂ (λ (b c : Bool). b || c) (h 0 ∙ ap f (omega arith))
    (any_to-from f (λ i. g (suc i)) (a + 1) n (λ i. h (suc i) ∙ ap f (omega arith)))

pub any_to-range : (f : ℕ → Bool) (n : ℕ) → any_to f n ≡ list_any f (range_with_len 0 n)
any_to-range f n = any_to-from f f 0 n (λ i. ap f (omega arith))

-- the first of n numbers from a on, as a chain over them finds it
pub first_from-find : (f : ℕ → Bool) (a n : ℕ) → first_from f a n ≡ find f (range_with_len a n)
unfolding first_from
first_from-find f a zero = refl
first_from-find f a (suc n) = rw (add-one a) (ap (λ (r : Option ℕ). cond (f a) (Some a) r) (first_from-find f (suc a) n))

-- ---- a day, by the holder, the state and the links

module _ (o : Opening) (t : Tables) (p d : ℕ) where
  pub by_links : holder_on t p d ≡ 0 → counting_states o.year (state_on t p d) ≡ true
      → any_to (λ e. linked_on t p e d) o.elements ≡ lacks_holder o t p d
  unfolding lacks_holder
  by_links a b = rw (a, b)

  pub by_state : holder_on t p d ≡ 0 → counting_states o.year (state_on t p d) ≡ false → false ≡ lacks_holder o t p d
  unfolding lacks_holder
  by_state a b = rw (a, b)

  pub by_holder : holder_on t p d ≢ 0 → false ≡ lacks_holder o t p d
  unfolding lacks_holder
  by_holder a = rw (ne_eqb _ _ a)

-- ---- the days of the month

-- what the search needs, where no question says no
pub point-asked : (l : Lent) (o : Lists) (p : ℕ) → l.links.now ≡ o.links → l.holders.now ≡ o.holders → l.states.now ≡ o.states
    → day_number (world_in l.book o) p ≡ 0 → PointAsked l p
point-asked l o p a b c h =
    let k = day_passed (world_in l.book o) p h in
    let n = (lengths (world_in l.book o) k.0).limited in
    let r = whole-rows l.book o k.0 in
    record {
      month = dated l.book o k.0;
      points = n.points;
      elements = n.elements;
      point = k.1;
      links = rw a r.links;
      holders = rw b r.holders;
      states = rw c r.states;
    }
