-- How far a run of `settle` has come, what is still printed for the bytes that are left, and what one field does.
use Rattle.std.specs.Prelude.{ℕ, suc, ◌+◌, Bool, true, false, cond, List, [], ◌∷◌, ◌++◌, length, take, drop, eqb}
use Rattle.rules.specs.World.{Opening, World, month_days, month_first}
use Rattle.rules.specs.Opening.{opened}
use Rattle.rules.specs.Effects.{step}
use Rattle.file.specs.declared.fields.Phase.{Phase}
use Rattle.file.specs.declared.fields.Found.{Found}
use Rattle.file.specs.declared.fields.Found.TheVariants.{Month, Element, Message, End, More, Broken}
use Rattle.file.specs.Field.{header_size, month_size, message_size, field_in}
use Rattle.file.specs.Lines.{book_line}
use Rattle.file.specs.Program.{ended_by, settle_records, answered, messages_from, Heading, collected, lent_for}
use Rattle.file.specs.Program.{settle_answer, elements_from, settled}

-- before tag 1; after it, with the values of the elements so far; after the opening, with the number of the next message; at the end
pub data Stage : Type 0 where
  start : Stage
  elements : Heading → List (List ℕ) → Stage
  messages : World → ℕ → Stage
  over : Stage

-- the fields that may come next
abbrev pub phase_of : Stage → Phase
phase_of start = Phase.Start
phase_of (elements h values) = Phase.Elements
phase_of (messages w number) = Phase.Messages
phase_of over = Phase.Start

-- what is still printed
unfoldable pub printed : Stage → (rest : List ℕ) → List ℕ
printed start bytes = settled bytes
printed (elements h values) bytes = elements_from (suc (length bytes)) bytes h values
printed (messages w number) bytes = messages_from (suc (length bytes)) bytes w number
printed over bytes = []

-- what one field does: the text, the stage behind it, and the place that the run goes on from
pub record Move : Type 0 where
  pub text : List ℕ
  pub stage : Stage
  pub next : ℕ

-- nothing is printed, and the run goes on from a place
abbrev pub quiet : Stage → (next : ℕ) → Move
quiet stage next = record { text = []; stage = stage; next = next }

-- "Refusals 1 to 4 print `refused 0 N` and end the run"
unfoldable pub broken : (at question : ℕ) → Move
broken at question = record { text = ended_by question; stage = over; next = at }

-- the book's line
unfoldable pub line_of : Opening → List ℕ
line_of o = book_line o.year o.month (month_days o) (month_first o)

-- behind the opening: the messages, or the end of the input
abbrev pub opened_to : (last : Bool) → World → Stage
opened_to false w = messages w 1
opened_to true w = over

-- "The book opens, printing its line": the run goes on from the same place with a stage that the opened world gives
unfoldable pub opening : (at : ℕ) → Opening → (more : World → Stage) → Move
opening at o more =
    cond (eqb (settle_answer o) 0)
    (record { text = line_of o; stage = more (opened (lent_for o)); next = at })
    (broken at (settle_answer o))

-- a field that was found from a place of the bytes on; where the bytes in hand end within it, nothing yet
unfoldable pub move_on : (at : ℕ) → Stage → Found → (bytes : List ℕ) → Move
move_on at start (Month year month points suppliers) bytes =
    quiet (elements (record { year = year; month = month; points = points; suppliers = suppliers }) []) (at + month_size)
move_on at start (Element size) bytes = broken at 1
move_on at start (Message f) bytes = broken at 1
move_on at start End bytes = broken at 1
move_on at start More bytes = quiet start at
move_on at start Broken bytes = broken at 1
move_on at (elements h values) (Month year month points suppliers) bytes = broken at 1
move_on at (elements h values) (Element size) bytes =
    quiet (elements h (values ++ (take size (drop (at + header_size) bytes) ∷ []))) (at + (header_size + size))
move_on at (elements h values) (Message f) bytes = opening at (collected h values) (opened_to false)
move_on at (elements h values) End bytes = opening at (collected h values) (opened_to true)
move_on at (elements h values) More bytes = quiet (elements h values) at
move_on at (elements h values) Broken bytes = broken at 1
move_on at (messages w number) (Month year month points suppliers) bytes = broken at 1
move_on at (messages w number) (Element size) bytes = broken at 1
move_on at (messages w number) (Message f) bytes =
    record { text = answered w f number; stage = messages (step w f settle_records) (suc number); next = at + message_size }
move_on at (messages w number) End bytes = quiet over at
move_on at (messages w number) More bytes = quiet (messages w number) at
move_on at (messages w number) Broken bytes = broken at 1
move_on at over found bytes = quiet over at

-- the field at a place of the bytes in hand
abbrev pub found_at : List ℕ → (at : ℕ) → Phase → (ended : Bool) → Found
found_at s at phase ended = field_in (drop at s) phase ended

-- the bytes in hand end within a field
unfoldable pub is_more : Found → Bool
is_more (Month year month points suppliers) = false
is_more (Element size) = false
is_more (Message f) = false
is_more End = false
is_more More = true
is_more Broken = false
