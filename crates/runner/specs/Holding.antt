-- What the numbers of a run and the tables lent to it stand for, and what is promised of one field.
use Rattle.std.specs.Prelude.{ℕ, ◌+◌, ◌-◌, ◌*◌, ◌≤◌, ◌<◌, min, ◌≡◌, Bool, true, false, not, ◌&&◌, List, [], ◌++◌, ℤ}
use Rattle.std.specs.Prelude.{length, take, drop, leb, ltb, Option, MatchOption, Result}
use Rattle.rules.specs.declared.Book.{Book}
use Rattle.rules.specs.Sizes.{element_size, most_elements, price_places}
use Rattle.rules.specs.declared.Fields.{Fields}
use Rattle.rules.specs.Effects.{step}
use Rattle.rules.specs.Lent.{Lists}
use Rattle.rules.specs.Whole.{Whole}
use Rattle.ledger.specs.RecordNumbers.{RecordPlaces}
use Rattle.recording.specs.Opened.{named_book}
use Rattle.rules.specs.declared.Refusal.{Refusal}
use Rattle.settlement.specs.Replies.{count_of}
use Rattle.file.specs.declared.fields.Found.{Found}
use Rattle.file.specs.Field.{header_size, hourly_length}
use Rattle.file.specs.Lines.{Written}
use Rattle.file.specs.Program.{Heading, described_all, prices_all, settle_points, settle_records, answered}
use Rattle.runner.specs.declared.Progress.{Progress}
use Rattle.runner.specs.declared.Advanced.{Advanced}
use Rattle.runner.specs.declared.Ran.{Ran}
use Rattle.runner.specs.Stages.{Stage, start, elements, messages, over, phase_of, printed, Move, move_on, found_at, is_more}
use Rattle.runner.specs.Parts.{fronts_world}
use Rattle.runner.specs.Texts.{longest_text, last_number, reply_text}

-- the month, the values of the elements so far, and their count, which stops at 65: more than 64 are question 2 whatever they are
pub record HoldsValues (b : Book) (element_data : List ℕ) (prices : List ℤ) (h : Heading) (values : List (List ℕ)) : Type 0 where
  pub book : b ≡ named_book h.year h.month h.points h.suppliers (min (most_elements + 1) (length values))
  pub described : length values ≤ most_elements → take (length values * element_size) element_data ≡ described_all values
  pub priced : length values ≤ most_elements → take (length values * price_places) prices ≡ prices_all values

-- an open book
pub record HoldsBook (b : Book) (t : Lists) : Type 0 where
  pub whole : Whole (fronts_world b t)
  pub points : b.points ≤ settle_points

-- what a message of an open book leaves: the world that the rules' step gives, and records or a refusal whose text is the rules' answer
pub record Told (b : Book) (t : Lists) (f : Fields) (b' : Book) (r : Result ℕ Refusal) (t' : Lists) (records : List ℤ) : Type 0 where
  pub world : fronts_world b' t' ≡ step (fronts_world b t) f settle_records
  pub holds : HoldsBook b' t'
  pub few : count_of r ≤ settle_records
  pub placed : (i : ℕ) → i < count_of r → RecordPlaces records i
  pub text : (message : ℕ) → reply_text r message records ≡ answered (fronts_world b t) f message

-- ---- the numbers and the tables stand for the stage

-- the elements so far
pub record Gathered (b : Book) (t : Lists) (stage : Stage) : Type 0 where
  pub heading : Heading
  pub values : List (List ℕ)
  pub is : stage ≡ elements heading values
  pub holds : HoldsValues b t.element_data t.prices heading values

-- the opened book, and the number of the next message
pub record Open (b : Book) (number : ℕ) (t : Lists) (stage : Stage) : Type 0 where
  pub is : stage ≡ messages (fronts_world b t) number
  pub holds : HoldsBook b t

abbrev pub Represents : Progress → Lists → Stage → Type 0
Represents Progress.Start t stage = stage ≡ start
Represents (Progress.Elements b) t stage = Gathered b t stage
Represents (Progress.Messages b number) t stage = Open b number t stage
Represents Progress.Over t stage = stage ≡ over

-- they stand for some stage
pub record Stands (p : Progress) (t : Lists) : Type 0 where
  pub stage : Stage
  pub holds : Represents p t stage

-- ---- one field

-- what is promised of a field that is taken: its text at a place of the output, the stage behind it and the place from which the run
-- goes on
pub record Advances (m : Move) (a : Advanced) (t : Lists) (out after : List ℕ) (from : ℕ) : Type 0 where
  pub holds : Represents a.progress t m.stage
  pub text : Written longest_text out after from a.written m.text
  pub place : a.next ≡ m.next

-- and of one that was found: where the bytes in hand end within it nothing is done, else it is taken
abbrev pub Taken : Found → Move → Option Advanced → (t t' : Lists) (out out' : List ℕ) (from : ℕ) → Type 0
Taken found m r t t' out out' from =
    MatchOption r ((is_more found ≡ true) × (t' ≡ t) × (out' ≡ out)) (λ a. (is_more found ≡ false) × Advances m a t' out out' from)

-- the field at a place of the bytes in hand, in a stage
abbrev pub Stepped : Stage → List ℕ → (at : ℕ) → (ended : Bool) → Option Advanced → (t t' : Lists) (out out' : List ℕ) (from : ℕ) → Type 0
Stepped stage s at ended r t t' out out' from =
    let found = found_at s at (phase_of stage) ended in Taken found (move_on at stage found s) r t t' out out' from

-- one element field more
abbrev pub counted : Book → Book
counted b =
    record {
      year = b.year;
      month = b.month;
      points = b.points;
      suppliers = b.suppliers;
      elements = min (most_elements + 1) (b.elements + 1);
      periods = b.periods;
      holders = b.holders;
      states = b.states;
      round = b.round;
      first = b.first;
      days = b.days;
    }

-- ---- a run

-- another field may come, and there is a message number behind the next
abbrev pub may_come : Progress → Bool
may_come Progress.Start = true
may_come (Progress.Elements b) = true
may_come (Progress.Messages b number) = ltb number last_number
may_come Progress.Over = false

-- another field can be taken
unfoldable pub can_go_on : Progress → (waits : Bool) (left : ℕ) → Bool
can_go_on p waits left = not waits && (may_come p && leb longest_text left)

-- from a stage and the bytes behind it the run has come to another: what is printed from the first on is the text, and what is printed from
-- the second on, whatever follows the bytes in hand
pub record Reached (ended : Bool) (from : Stage) (front text : List ℕ) (p : Progress) (t : Lists) (left : List ℕ) : Type 0 where
  pub stage : Stage
  pub holds : Represents p t stage
  pub same : (rest : List ℕ) → (ended ≡ true → rest ≡ []) → printed from (front ++ rest) ≡ text ++ printed stage (left ++ rest)

-- an element with 24 prices is the longest field: 198
abbrev pub longest_field : ℕ
longest_field = header_size + hourly_length

-- where it has stopped, and why; the output behind the text is as it was
pub record Stopped (s : List ℕ) (ended : Bool) (out after : List ℕ) (r : Ran) : Type 0 where
  pub place : r.next ≤ length s
  pub text : r.written ≤ length after
  pub behind : drop r.written after ≡ drop r.written out
  -- more bytes are needed: the input does not end here, and fewer are left than the longest field has
  pub waits : r.waits ≡ true → (ended ≡ false) × (length s - r.next < longest_field)
  pub stops : can_go_on r.progress r.waits (length after - r.written) ≡ false
