-- Records as numbers: nine a record, in the order of its fields, at the front of a lent list of numbers.
use Rattle.std.specs.Prelude.{List, [], ◌∷◌, ◌++◌, ℕ, ◌+◌, ◌*◌, ◌<◌, ℤ, pos, nat_abs, length, get_or, drop, T}
use Rattle.std.specs.Int.Signed.{non_neg}
use Rattle.rules.specs.declared.Record.{Record}
use Rattle.rules.specs.Sizes.{line_size, record_size}
use Rattle.ledger.specs.LineNumbers.{line_numbers, line_in, LinePlaces, signed_room, SmallLine}

-- kind, supplier, element
unfoldable pub name_numbers : Record → List ℤ
name_numbers r = pos r.kind ∷ pos r.supplier ∷ pos r.element ∷ []

-- these, then the difference's quantity, kroner, billionths, and the balance's
unfoldable pub record_numbers : Record → List ℤ
record_numbers r = name_numbers r ++ line_numbers r.moved ++ line_numbers r.balance

-- where the difference and the balance begin
abbrev pub moved_place : ℕ
moved_place = 3

abbrev pub balance_place : ℕ
balance_place = moved_place + line_size

unfoldable pub numbers_of : List Record → List ℤ
numbers_of [] = []
numbers_of (r ∷ rs) = record_numbers r ++ numbers_of rs

-- a lent list of numbers afterwards: the records stand at its front, and numbers past the last one written stay as lent
unfoldable pub numbers_after : List Record → (lent : List ℤ) → List ℤ
numbers_after rs lent = numbers_of rs ++ drop (length rs * record_size) lent

-- the record that stands at a place of a list of numbers
unfoldable pub record_at : (numbers : List ℤ) → (i : ℕ) → Record
record_at ns i =
    record {
      kind = nat_abs (get_or ns (i * record_size) (pos 0));
      supplier = nat_abs (get_or ns (i * record_size + 1) (pos 0));
      element = nat_abs (get_or ns (i * record_size + 2) (pos 0));
      moved = line_in ns (i * record_size + moved_place);
      balance = line_in ns (i * record_size + balance_place);
    }

-- a record stands there: kind, supplier and element are not below zero, and behind them stand two lines
pub record RecordPlaces (ns : List ℤ) (i : ℕ) : Type 0 where
  pub kind : T (non_neg (get_or ns (i * record_size) (pos 0)))
  pub supplier : T (non_neg (get_or ns (i * record_size + 1) (pos 0)))
  pub element : T (non_neg (get_or ns (i * record_size + 2) (pos 0)))
  pub moved : LinePlaces ns (i * record_size + moved_place)
  pub balance : LinePlaces ns (i * record_size + balance_place)

-- numbers that fit 63 bits
pub record SmallRecord (r : Record) : Type 0 where
  pub kind : r.kind < signed_room
  pub supplier : r.supplier < signed_room
  pub element : r.element < signed_room
  pub moved : SmallLine r.moved
  pub balance : SmallLine r.balance
