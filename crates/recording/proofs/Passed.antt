-- A message that has passed the questions before 17 has fields within their ranges: each number by the question that limits it.
use Prim.Native.Nat.{ℕ, ◌≤◌, ◌<◌}
use mathlib.Core.Path.{◌≡◌, refl}
use mathlib.Core.Bool.{true, false≢true}
use Rattle.std.specs.Prelude.{Some}
use lib.ListN.{length, take}
use native.Mathlib.Nat.{mul-le-mul_right}
use native.Mathlib.Omega.{arith}
use Rattle.calendar.specs.Gregorian.{days_of_month}
use Rattle.rules.specs.Sizes.{most_points}
use Rattle.rules.specs.declared.Book.{Book}
use Rattle.rules.specs.declared.Body.{Body}
use Rattle.rules.specs.declared.Body.TheVariants.{Link, Stop, Quantity, Holder, State, Reading, Block, Round}
use Rattle.rules.specs.World.{rows_of, month_first, month_days, reading_at}
use Rattle.rules.specs.WellFormed.{reading_count}
use Rattle.rules.specs.Questions.{point_of}
use Rattle.rules.specs.Effects.{writes_row}
use Rattle.rules.specs.Whole.{Dated}
use Rattle.rules.specs.Ready.{Ready}
use Rattle.rules.specs.Lent.{Lists, opening_in, tables_in}
use Rattle.rules.proofs.Passed.{own-quantity, own-reading, element_link, element_stop, element-quantity, point-inside}
use Rattle.recording.specs.Recorded.{RowFits, ReadingFits}

module _ (b : Book) (o : Lists) where
  inside : (x : Body) (p : ℕ) → Ready (opening_in b o) (tables_in b o) x → point_of x ≡ Some p → p < most_points
  inside x p r h =
      let k = point-inside (opening_in b o) (tables_in b o) x p h r.point in
      let l = r.limited.points in
      omega arith

  -- messages 1 to 5
  pub row_fits : (x : Body) → writes_row x ≡ true → Ready (opening_in b o) (tables_in b o) x
      → RowFits (take b.periods o.links) x
  unfolding rows_of point_of writes_row
  row_fits (Link p e d q) h r =
      let i = inside (Link p e d q) p r refl in
      let j = (element_link (opening_in b o) (tables_in b o) p e d q r.element).0 in
      let k = r.limited.elements in
      let s = r.range in
      (record { point = omega arith; element = omega arith }, record { day = omega arith }, omega arith)
  row_fits (Stop p e d) h r =
      let i = inside (Stop p e d) p r refl in
      let j = element_stop (opening_in b o) (tables_in b o) p e d r.element in
      let k = r.limited.elements in
      let s = r.range in
      (record { point = omega arith; element = omega arith }, record { day = omega arith })
  row_fits (Quantity p e d q) h r =
      let i = inside (Quantity p e d q) p r refl in
      let j = element-quantity (opening_in b o) (tables_in b o) p e d q r.element in
      let k = r.limited.elements in
      let s = r.range in
      let l = (own-quantity (opening_in b o) (tables_in b o) p e d q r.right r.own).1 in
      (record { point = omega arith; element = omega arith }, record { day = omega arith }, omega arith, l)
  row_fits (Holder p d v) h r =
      let k = r.limited.suppliers in
      let s = r.range in
      (inside (Holder p d v) p r refl, s.0, omega arith)
  row_fits (State p d v) h r = let s = r.range in (inside (State p d v) p r refl, s.0, omega arith)
  row_fits (Reading p d h n) k r = absurd (false≢true k)
  row_fits (Block p v) h r = absurd (false≢true h)
  row_fits Round h r = absurd (false≢true h)

  -- message 6
  pub reading-fits : Dated b → (p d h n : ℕ) → Ready (opening_in b o) (tables_in b o) (Reading p d h n) → ReadingFits b o.readings p d h n
  unfolding point_of reading_count month_first month_days reading_at
  reading-fits g p d h n r =
      let x = Reading p d h n in
      let i = point-inside (opening_in b o) (tables_in b o) x p refl r.point in
      let j = own-reading (opening_in b o) (tables_in b o) p d h n r.own in
      let l = r.readings in
      let m = mul-le-mul_right (days_of_month b.year b.month) i in
      let s = r.range in
      record {
        of_month = record { month = g; point-below = inside x p r refl; begun = j.0; day-below = s.0; hour-below = s.1 };
        energy-below = s.2;
        place = λ o. omega arith;
      }

  -- message 7
  pub block_fits : (p v : ℕ) → length o.blocks ≡ b.points → Ready (opening_in b o) (tables_in b o) (Block p v)
      → (p < length o.blocks) × (v ≤ 1)
  unfolding point_of
  block_fits p v l r = (rw l (point-inside (opening_in b o) (tables_in b o) (Block p v) p refl r.point), r.range)

-- what the tag of a message says, where the code has told readings, blocks and rounds apart
pub writes_row_lem : (x : Body) → ((p d h n : ℕ) → x ≡ Reading p d h n → ⊥)
    → ((p v : ℕ) → x ≡ Block p v → ⊥)
    → (x ≡ Round → ⊥) → writes_row x ≡ true
unfolding writes_row
writes_row_lem (Link p e d q) not_reading not_block not_round = refl
writes_row_lem (Stop p e d) not_reading not_block not_round = refl
writes_row_lem (Quantity p e d q) not_reading not_block not_round = refl
writes_row_lem (Holder p d v) not_reading not_block not_round = refl
writes_row_lem (State p d v) not_reading not_block not_round = refl
writes_row_lem (Reading p d h n) not_reading not_block not_round = absurd (not_reading p d h n refl)
writes_row_lem (Block p v) not_reading not_block not_round = absurd (not_block p v refl)
writes_row_lem Round not_reading not_block not_round = absurd (not_round refl)
