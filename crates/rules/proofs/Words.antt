-- Laws of single rows: the fields of a packed row, and the order of rows.
use Prim.Native.Nat.{ℕ, ◌+◌, ◌*◌, ◌/◌, ◌≤◌, ◌<◌}
use mathlib.Core.Path.{◌≡◌, refl, sym, ◌∙◌}
use mathlib.Core.Logic.{◌≢◌}
use mathlib.Core.Bool.{true, false, ◌&&◌, false≢true}
use lib.Dec.{leb, ltb, eqb}
use borrow.Author.Tests.{eqb-true, eq-eqb}
use native.Mathlib.Omega.{arith}
use native.Mathlib.Nat.{mul-add-div_right, div-eq_of_lt, mul-add-mod_self_right, mod-eq_of_lt}
use Rattle.rules.specs.Sizes.{day_room, element_room, first_unit, quantity_room}
use Rattle.rules.specs.Rows.{pack_period, period_point, period_element, period_first, period_end, period_quantity, of_pair, covers}
use Rattle.rules.specs.Rows.{pack_value, value_point, value_first, value_of}
use Rattle.rules.proofs.Tests.{both}
use Rattle.rules.specs.Order.{from}

-- ---- periods

module _ (w : ℕ) where
  pub element_lt : period_element w < element_room
  unfolding period_element
  element_lt = omega arith

  pub first_lt : period_first w < day_room
  unfolding period_first
  first_lt = omega arith

  pub end_lt : period_end w < day_room
  unfolding period_end
  end_lt = omega arith

  pub quantity_lt : period_quantity w < quantity_room
  unfolding period_quantity
  quantity_lt = omega arith

module _ (p e a b q : ℕ) (he : e < element_room) (ha : a < day_room) (hb : b < day_room) (hq : q < quantity_room) where
  pub point_pack : period_point (pack_period p e a b q) ≡ p
  unfolding period_point pack_period
  point_pack = omega arith

  pub element_pack : period_element (pack_period p e a b q) ≡ e
  unfolding period_element pack_period
  element_pack = omega arith

  pub first_pack : period_first (pack_period p e a b q) ≡ a
  unfolding period_first pack_period
  first_pack = omega arith

  pub end_pack : period_end (pack_period p e a b q) ≡ b
  unfolding period_end pack_period
  end_pack = omega arith

  pub quantity_pack : period_quantity (pack_period p e a b q) ≡ q
  unfolding period_quantity pack_period
  quantity_pack = omega arith

  pub pair_pack : (p' e' : ℕ) → of_pair p' e' (pack_period p e a b q) ≡ (eqb p p' && eqb e e')
  unfolding of_pair
  pair_pack p' e' = rw (point_pack, element_pack)

  pub pair_pack_same : of_pair p e (pack_period p e a b q) ≡ true
  pair_pack_same = rw (pair_pack p e, eq-eqb p p refl, eq-eqb e e refl)

abbrev pub spot : (point element day : ℕ) → ℕ
spot p e d = (p * element_room + e) * day_room + d

pub from_is : (w : ℕ) → from w ≡ w / first_unit
unfolding period_point period_element period_first
from_is w = omega arith

pub from_lt : (r s : ℕ) → from r < from s → r < s
from_lt r s h = let a = from_is r in let b = from_is s in omega arith

pub lt_from : (r s : ℕ) → r < s → from r ≤ from s
lt_from r s h = let a = from_is r in let b = from_is s in omega arith

pub pair_true : (p e w : ℕ) → of_pair p e w ≡ true → (period_point w ≡ p) × (period_element w ≡ e)
unfolding of_pair
pair_true p e w h = let k = both _ _ h in (eqb-true _ _ k.0, eqb-true _ _ k.1)

pub pair_is : (p e w : ℕ) → period_point w ≡ p → period_element w ≡ e → of_pair p e w ≡ true
unfolding of_pair
pair_is p e w h k = rw (eq-eqb _ _ h, eq-eqb _ _ k)

pub pair_false : (p e w : ℕ) → e < element_room → of_pair p e w ≡ false
    → period_point w * element_room + period_element w ≢ p * element_room + e
pair_false p e w he h k =
    let l = element_lt w in
    false≢true (sym h ∙ pair_is p e w (omega arith) (omega arith))

-- a row of one pair is of no other
pub pair_other : (p e p' e' w : ℕ) → (eqb p p' && eqb e e') ≡ false → of_pair p e w ≡ true → of_pair p' e' w ≡ false
unfolding of_pair
pair_other p e p' e' w h k =
    let m = pair_true p e w k in
    rw (m.0, m.1) h

pub covers-is : (p e d w : ℕ) → covers p e d w ≡ (of_pair p e w && (leb (period_first w) d && ltb d (period_end w)))
unfolding covers
covers-is p e d w = refl

-- ---- dated values

module _ (size p d v : ℕ) (hd : d < day_room) (hv : v < size) where
  pub key_pack : pack_value size p d v / size ≡ p * day_room + d
  unfolding pack_value
  key_pack = rw (mul-add-div_right {m = size} (omega arith) (p * day_room + d) v, div-eq_of_lt hv) (omega arith)

  pub point-value : value_point size (pack_value size p d v) ≡ p
  unfolding value_point
  point-value = let k = key_pack in omega arith

  pub first-value : value_first size (pack_value size p d v) ≡ d
  unfolding value_first
  first-value = let k = key_pack in omega arith

  pub value_pack : value_of size (pack_value size p d v) ≡ v
  unfolding value_of pack_value
  value_pack = mul-add-mod_self_right (p * day_room + d) size v ∙ mod-eq_of_lt hv
