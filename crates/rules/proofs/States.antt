-- Which states count: the two sets, the year that chooses, and that up to 2018 a line asks of a state only whether the point exists.
use mathlib.Core.Path.{◌≡◌, refl}
use Prim.Native.Nat.{ℕ, ◌+◌, ◌≤◌, ◌<◌}
use mathlib.Core.Bool.{Bool, true, false}
use mathlib.Core.List.{List, [], ◌∷◌}
use lib.Dec.{eqb}
use borrow.Author.Tests.{le-leb, lt-leb, eqb-true}
use Rattle.rules.specs.Sizes.{last_year_of_every_state}
use Rattle.rules.specs.Basics.{within}
use Rattle.rules.specs.Lines.{Measure, Facts, line}
use Rattle.rules.specs.World.{Opening, terms_by, terms_of, not_existing, new_state, connected, disconnected, closed}
use Rattle.rules.specs.World.{connected_or_disconnected, every_state, counting_states}
use Rattle.rules.proofs.Tests.{cases}
use Rattle.rules.proofs.LineLaws.{line_cong}

pub early : (year : ℕ) → year ≤ last_year_of_every_state → counting_states year ≡ every_state
unfolding counting_states
early year h = rw (le-leb _ _ h)

pub late : (year : ℕ) → last_year_of_every_state < year → counting_states year ≡ connected_or_disconnected
unfolding counting_states
late year h = rw (lt-leb _ _ h)

-- a set at no state and at the four states
abbrev each : (counts : (state : ℕ) → Bool) → List Bool
each counts = counts not_existing ∷ counts new_state ∷ counts connected ∷ counts disconnected ∷ counts closed ∷ []

-- the sets of the last year of the one and of the first of the other
pub states_known : (each (counting_states 2018) ≡ false ∷ true ∷ true ∷ true ∷ true ∷ [])
    × (each (counting_states 2019) ≡ false ∷ false ∷ true ∷ true ∷ false ∷ [])
unfolding counting_states every_state connected_or_disconnected within
states_known = (refl, refl)

-- a state that counts from 2019 on counts up to 2018 too
pub wider : (state : ℕ) → connected_or_disconnected state ≡ true → every_state state ≡ true
unfolding every_state connected_or_disconnected within
wider state h = cases (eqb state connected)
    (λ c. rw (eqb-true state connected c))
    (λ c. rw (eqb-true state disconnected (rw c at h)))

-- facts with other states
abbrev restated : Facts → (state : (point day : ℕ) → ℕ) → Facts
restated f state = record { holder = f.holder; state = state; quantity = f.quantity; energy = f.energy }

-- up to 2018 a state matters by whether the point exists alone: a point that is closed in the month goes on counting
pub existing_line : (o : Opening) → o.year ≤ last_year_of_every_state → (f : Facts) (a b : (point day : ℕ) → ℕ)
    → ((p d : ℕ) → every_state (a p d) ≡ every_state (b p d))
    → (m : Measure) (s e : ℕ) → line (terms_of o) (restated f a) m s e ≡ line (terms_of o) (restated f b) m s e
existing_line o h f a b x m s e =
    line_cong (terms_of o) (restated f a) (restated f b) m s e (λ p k.
    record {
      holder = λ i l. refl;
      counts = λ i l. unfold terms_by in rw (early o.year h) (x p ((terms_of o).first + i));
      quantity = λ e i l. refl;
      energy = λ i j l n. refl;
    })
