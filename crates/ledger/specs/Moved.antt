-- Which lines have moved from what was sent, by the tables alone, and what the functions of a round ask and promise.
use Rattle.std.specs.Prelude.{◌≡◌, Bool, true, ◌&&◌, cond, List, [], ◌∷◌, ◌++◌, ℕ, zero, suc, ◌+◌}
use Rattle.std.specs.Prelude.{◌*◌, ◌/◌, ◌%◌, ◌≤◌, ◌<◌, ℤ, pos, nat_abs, ◌-ℤ◌, length, get_or, set, eqb}
use Rattle.std.proofs.lemmas.List.Edits.{sets}
use Rattle.rules.specs.declared.Book.{Book}
use Rattle.rules.specs.declared.Record.{Record}
use Rattle.rules.specs.Sizes.{most_suppliers, most_elements, line_size, record_size, last_round}
use Rattle.rules.specs.Basics.{all_to}
use Rattle.rules.specs.Lines.{Measure}
use Rattle.rules.specs.World.{stored_at}
use Rattle.rules.specs.WellFormed.{line_right}
use Rattle.rules.specs.Effects.{line_of}
use Rattle.ledger.specs.RecordNumbers.{record_numbers}

-- how far the line from a place on has moved
unfoldable pub moved_by : (lines sent : List ℤ) → Measure → (place : ℕ) → ℤ
moved_by ls ts m i = stored_at ls m i -ℤ stored_at ts m i

-- it has not
unfoldable pub unmoved_at : (lines sent : List ℤ) → (place : ℕ) → Bool
unmoved_at ls ts i = eqb (nat_abs (moved_by ls ts Measure.quantity i)) 0 && eqb (nat_abs (moved_by ls ts Measure.amount i)) 0

-- how many lines a book has
abbrev pub lines_in : Book → ℕ
lines_in b = b.suppliers * b.elements

-- the record of a line by its number: suppliers ascending, then elements
unfoldable pub line_record : Book → (lines sent : List ℤ) → (line_number : ℕ) → Record
line_record b ls ts k =
    record {
      kind = b.round;
      supplier = k / b.elements + 1;
      element = k % b.elements;
      moved = line_of (moved_by ls ts Measure.quantity (k * line_size)) (moved_by ls ts Measure.amount (k * line_size));
      balance = line_of (stored_at ls Measure.quantity (k * line_size)) (stored_at ls Measure.amount (k * line_size));
    }

-- the records of those of the first n lines that have moved
unfoldable pub line_records : Book → (lines sent : List ℤ) → (count : ℕ) → List Record
line_records b ls ts zero = []
line_records b ls ts (suc k) = line_records b ls ts k ++ cond (unmoved_at ls ts (k * line_size)) [] (line_record b ls ts k ∷ [])

-- how many they are
unfoldable pub moved_count : (lines sent : List ℤ) → (count : ℕ) → ℕ
moved_count ls ts zero = 0
moved_count ls ts (suc k) = moved_count ls ts k + cond (unmoved_at ls ts (k * line_size)) 0 1

-- what was sent, with one line's three numbers as they are now
unfoldable pub line_copied : (lines sent : List ℤ) → (place : ℕ) → List ℤ
line_copied ls ts i =
    set (set (set ts i (get_or ls i (pos 0))) (i + 1) (get_or ls (i + 1) (pos 0))) (i + 2) (get_or ls (i + 2) (pos 0))

-- ---- what is asked

-- of one line
pub record Comparable (ls ts : List ℤ) (at : ℕ) : Type 0 where
  pub line : at + 2 < length ls
  pub total : at + 2 < length ts
  pub line-right : line_right ls at ≡ true
  pub total_right : line_right ts at ≡ true

-- of all of them: limits, lengths and bounds, as questions 2, 3 and 5 do
pub record Settled (b : Book) (ls ts : List ℤ) : Type 0 where
  pub suppliers : b.suppliers ≤ most_suppliers
  pub elements : b.elements ≤ most_elements
  pub round-low : 1 ≤ b.round
  pub round-high : b.round ≤ last_round
  pub lines : length ls ≡ lines_in b * line_size
  pub totals : length ts ≡ lines_in b * line_size
  pub lines-right : all_to (λ k. line_right ls (k * line_size)) (lines_in b) ≡ true
  pub totals-right : all_to (λ k. line_right ts (k * line_size)) (lines_in b) ≡ true

-- of a line whose record may be due
pub record Sendable (b : Book) (ls ts : List ℤ) (k : ℕ) : Type 0 where
  pub suppliers : b.suppliers ≤ most_suppliers
  pub elements : b.elements ≤ most_elements
  pub round-high : b.round ≤ last_round
  pub below : k < lines_in b
  pub compared : Comparable ls ts (k * line_size)

-- ---- what is promised of one line

pub record LineSent (b : Book) (ls ts ts' : List ℤ) (k n next : ℕ) (lent out : List ℤ) : Type 0 where
  pub place : next ≡ cond (unmoved_at ls ts (k * line_size)) n (n + 1)
  pub sent : ts' ≡ line_copied ls ts (k * line_size)
  pub list : out ≡ cond (unmoved_at ls ts (k * line_size)) lent (sets lent (n * record_size) (record_numbers (line_record b ls ts k)))
