-- What question 6 asks for each role and each kind.
use mathlib.Core.Path.{◌≡◌}
use mathlib.Core.Logic.{◌≢◌, ◌⊎◌, inl, inr}
use mathlib.Core.Bool.{false, ◌&&◌}
use Rattle.std.specs.Prelude.{None}
use Prim.Native.Nat.{ℕ, ◌≤◌, ◌<◌}
use lib.Dec.{leb, ltb, eqb}
use borrow.Author.Tests.{ne_eqb, le-leb, lt-leb}
use native.Mathlib.Omega.{arith}
use Rattle.rules.specs.Sizes.{hour_places, most_energy, most_quantity}
use Rattle.rules.specs.declared.Fields.{Fields}
use Rattle.rules.specs.declared.Sender.{Sender}
use Rattle.rules.specs.declared.Body.{Body}
use Rattle.rules.specs.Basics.{within, when}
use Rattle.rules.specs.World.{new_state, closed}
use Rattle.rules.specs.Messages.{sender_of, is_day, no_hour, no_element, is_quantity, fields_right, value_fits, body_named}

module _ (n : ℕ) (f : Fields) where
  pub role_1 : f.role ≡ 1 → sender_of n f ≡ when (eqb f.sender 0) Sender.GridCompany
  unfolding sender_of
  role_1 k = rw k

  pub role_2 : f.role ≡ 2 → sender_of n f ≡ when (eqb f.sender 0) Sender.Energinet
  unfolding sender_of
  role_2 k = rw k

  pub role_3 : f.role ≡ 3 → sender_of n f ≡ when (within 1 n f.sender) (Sender.Supplier f.sender)
  unfolding sender_of
  role_3 k = rw k

  pub role_else : f.role ≢ 1 → f.role ≢ 2 → f.role ≢ 3 → sender_of n f ≡ None
  unfolding sender_of when
  role_else a b c = rw (ne_eqb _ _ a, ne_eqb _ _ b, ne_eqb _ _ c)

module _ (f : Fields) where
  -- ---- which fields a kind uses

  pub right-place : 1 ≤ f.kind → f.kind < 4 → fields_right f ≡ is_day f.day && no_hour f
  unfolding fields_right within
  right-place a b = rw (le-leb 1 f.kind a, le-leb f.kind 3 (omega arith))

  pub right-day : 4 ≤ f.kind → f.kind < 6 → fields_right f ≡ is_day f.day && no_element f
  unfolding fields_right within
  right-day a b = rw (
    le-leb 1 f.kind (omega arith),
    lt-leb f.kind 3 (omega arith),
    le-leb 4 f.kind a,
    le-leb f.kind 5 (omega arith),
  )

  pub right-hour : f.kind ≡ 6 → fields_right f ≡ is_day f.day && (eqb f.element 0 && ltb f.hour hour_places)
  unfolding fields_right within
  right-hour k = rw k

  pub right-point : f.kind ≡ 7 → fields_right f ≡ eqb f.day 0 && (eqb f.element 0 && eqb f.hour 0)
  unfolding fields_right within no_element no_hour
  right-point k = rw k

  pub right-round : f.kind ≡ 8 → fields_right f ≡ eqb f.point 0 && ((eqb f.element 0 && eqb f.hour 0) && eqb f.day 0)
  unfolding fields_right within no_element no_hour
  right-round k = rw k

  -- no kind
  pub right-below : f.kind < 1 → fields_right f ≡ false
  unfolding fields_right within
  right-below a = let k : f.kind ≡ 0 = omega arith in rw k

  pub right_above : 6 ≤ f.kind → f.kind ≢ 6 → f.kind ≢ 7 → f.kind ≢ 8 → fields_right f ≡ false
  unfolding fields_right within
  right_above a b c d = rw (
    le-leb 1 f.kind (omega arith),
    lt-leb f.kind 3 (omega arith),
    le-leb 4 f.kind (omega arith),
    lt-leb f.kind 5 (omega arith),
    ne_eqb _ _ b,
    ne_eqb _ _ c,
    ne_eqb _ _ d,
  )

  -- ---- which body it names

  pub names_link : f.kind ≡ 1 → body_named f ≡ Body.Link f.point f.element f.day f.value
  unfolding body_named
  names_link k = rw k

  pub names_stop : f.kind ≡ 2 → body_named f ≡ Body.Stop f.point f.element f.day
  unfolding body_named
  names_stop k = rw k

  pub names_quantity : f.kind ≡ 3 → body_named f ≡ Body.Quantity f.point f.element f.day f.value
  unfolding body_named
  names_quantity k = rw k

  pub names_holder : f.kind ≡ 4 → body_named f ≡ Body.Holder f.point f.day f.value
  unfolding body_named
  names_holder k = rw k

  pub names_state : f.kind ≡ 5 → body_named f ≡ Body.State f.point f.day f.value
  unfolding body_named
  names_state k = rw k

  pub names_reading : f.kind ≡ 6 → body_named f ≡ Body.Reading f.point f.day f.hour f.value
  unfolding body_named
  names_reading k = rw k

  pub names_block : f.kind ≡ 7 → body_named f ≡ Body.Block f.point f.value
  unfolding body_named
  names_block k = rw k

  pub names_round : f.kind ≢ 1 → f.kind ≢ 2 → f.kind ≢ 3 → f.kind ≢ 4 → f.kind ≢ 5 → f.kind ≢ 6 → f.kind ≢ 7
      → body_named f ≡ Body.Round
  unfolding body_named
  names_round a b c d e g h =
      rw (ne_eqb _ _ a, ne_eqb _ _ b, ne_eqb _ _ c, ne_eqb _ _ d, ne_eqb _ _ e, ne_eqb _ _ g, ne_eqb _ _ h)

-- what a kind's value is
module _ (n kind value : ℕ) where
  pub fits-quantity : (kind ≡ 1) ⊎ (kind ≡ 3) → value_fits n kind value ≡ within 1 most_quantity value
  unfolding value_fits is_quantity
  fits-quantity (inl k) = rw k
  fits-quantity (inr k) = rw k

  pub fits-holder : kind ≡ 4 → value_fits n kind value ≡ leb value n
  unfolding value_fits
  fits-holder k = rw k

  pub fits-state : kind ≡ 5 → value_fits n kind value ≡ within new_state closed value
  unfolding value_fits
  fits-state k = rw k

  pub fits-energy : kind ≡ 6 → value_fits n kind value ≡ leb value most_energy
  unfolding value_fits
  fits-energy k = rw k

  pub fits_block : kind ≡ 7 → value_fits n kind value ≡ leb value 1
  unfolding value_fits
  fits_block k = rw k

  pub fits_none : kind ≢ 1 → kind ≢ 3 → kind ≢ 4 → kind ≢ 5 → kind ≢ 6 → kind ≢ 7 → value_fits n kind value ≡ eqb value 0
  unfolding value_fits
  fits_none a c d e g h = rw (ne_eqb _ _ a, ne_eqb _ _ c, ne_eqb _ _ d, ne_eqb _ _ e, ne_eqb _ _ g, ne_eqb _ _ h)
