-- The end of a link: every message but a link has none, and a link of a message that has passed the questions before 17 has one within
-- the days. By cases.
use Prim.Native.Nat.{ℕ, ◌*◌, ◌<◌}
use mathlib.Core.Path.{◌≡◌, refl}
use lib.Dec.{eqb}
use lib.ListN.{length}
use native.Mathlib.Omega.{arith}
use Rattle.rules.specs.declared.Book.{Book}
use Rattle.rules.specs.declared.Body.{Body}
use Rattle.rules.specs.declared.Body.TheVariants.{Link, Stop, Quantity, Holder, State, Reading, Block, Round}
use Rattle.rules.specs.Sizes.{day_room, element_size}
use Rattle.rules.specs.Lines.{fee}
use Rattle.rules.specs.World.{Opening, Tables, rows_of, kind_of}
use Rattle.rules.specs.Questions.{point_of}
use Rattle.rules.specs.Effects.{link_end}
use Rattle.rules.specs.Ready.{Ready}
use Rattle.rules.specs.Lent.{Lists, opening_in, tables_in}
use Rattle.rules.proofs.Tests.{cases}
use Rattle.rules.proofs.Reach.{next-after}
use Rattle.rules.proofs.Passed.{element_link, point-inside}
use Rattle.facts.specs.Links.{link_ends, LinkFits}

pub no_link : (o : Opening) (t : Tables) (b : Body) → ((p e d q : ℕ) → b ≡ Link p e d q → ⊥) → 0 ≡ link_ends o t b
unfolding link_ends
no_link o t (Link p e d q) h = absurd (h p e d q refl)
no_link o t (Stop p e d) h = refl
no_link o t (Quantity p e d q) h = refl
no_link o t (Holder p d v) h = refl
no_link o t (State p d v) h = refl
no_link o t (Reading p d h n) k = refl
no_link o t (Block p v) h = refl
no_link o t Round h = refl

-- ---- a message that has passed the questions before 17

module _ (b : Book) (o : Lists) where
  pub link_fits : (x : Body) → Ready (opening_in b o) (tables_in b o) x → length o.element_data ≡ b.elements * element_size
      → LinkFits o.element_data x
  unfolding point_of
  link_fits (Link p e d q) r l =
      let i = point-inside (opening_in b o) (tables_in b o) (Link p e d q) p refl r.point in
      let j = (element_link (opening_in b o) (tables_in b o) p e d q r.element).0 in
      let points = r.limited.points in
      let elements = r.limited.elements in
      let s = r.range in
      (record { point = omega arith; element = omega arith }, record { day = omega arith }, omega arith)
  link_fits (Stop p e d) r l = tt
  link_fits (Quantity p e d q) r l = tt
  link_fits (Holder p d v) r l = tt
  link_fits (State p d v) r l = tt
  link_fits (Reading p d h n) r l = tt
  link_fits (Block p v) r l = tt
  link_fits Round r l = tt

  -- a link ends on a day, or at the end of days
  pub ends-below : (x : Body) → Ready (opening_in b o) (tables_in b o) x → link_ends (opening_in b o) (tables_in b o) x < day_room
  unfolding link_ends link_end
  ends-below (Link p e d q) r =
      let s = r.range in
      let n = next-after p e d (rows_of (tables_in b o).links) s.0 in
      cases (eqb (kind_of (opening_in b o) e) fee) (λ t. rw t (omega arith)) (λ t. rw t (omega arith))
  ends-below (Stop p e d) r = omega arith
  ends-below (Quantity p e d q) r = omega arith
  ends-below (Holder p d v) r = omega arith
  ends-below (State p d v) r = omega arith
  ends-below (Reading p d h n) r = omega arith
  ends-below (Block p v) r = omega arith
  ends-below Round r = omega arith
