-- A message's reply, and what is asked and left on the way to it.
use Rattle.std.specs.Prelude.{ℕ, ◌/◌, ◌≡◌, cond, List, [], ℤ, length, Result, Ok, Err}
use Rattle.rules.specs.declared.Body.{Body}
use Rattle.rules.specs.declared.Body.TheVariants.{Round}
use Rattle.rules.specs.declared.Fields.{Fields}
use Rattle.rules.specs.declared.Refusal.{Refusal}
use Rattle.rules.specs.Sizes.{record_size}
use Rattle.rules.specs.World.{World}
use Rattle.rules.specs.Effects.{records, tables_after, lines_after, sent_after, ask, question17, question18, answer, step, records_of}
use Rattle.rules.specs.Answers.{number_of}
use Rattle.rules.specs.Whole.{Whole}
use Rattle.rules.specs.Ready.{Ready}
use Rattle.ledger.specs.RecordNumbers.{numbers_after}

-- how many records a list of numbers holds
abbrev pub room_in : (lent : List ℤ) → ℕ
room_in lent = length lent / record_size

-- how many records an answer tells of; a refusal tells of none
abbrev pub count_of : Result ℕ Refusal → ℕ
count_of (Ok n) = n
count_of (Err r) = 0

-- a message that has passed questions 2 to 16
pub record ReadyIn (w : World) (body : Body) : Type 0 where
  pub whole : Whole w
  pub ready : Ready w.opening w.position.tables body

-- tables and lines after it, with what was sent as it was
unfoldable pub moved_on : World → Body → World
moved_on w b = record w { position = record { tables = tables_after w b; lines = lines_after w b } }

-- question 17, and what follows it
pub record Applied (w after : World) (b : Body) (number : ℕ) : Type 0 where
  pub number_is : number ≡ ask (question17 w b) 17 0
  pub world : after ≡ cond (question17 w b) (moved_on w b) w

-- every line is sent, and the next round is of the next kind
abbrev pub sent_on : World → World
sent_on w = record w { sent = sent_after w Round }

-- a round: question 18 of the room for records; then the next kind of round, what was sent, and the records
pub record Sending (w after : World) (r : Result ℕ Refusal) (lent out : List ℤ) : Type 0 where
  pub number_is : number_of r ≡ ask (question18 w Round (room_in lent)) 18 0
  pub world : after ≡ cond (question18 w Round (room_in lent)) (sent_on w) w
  pub list : out ≡ numbers_after (cond (question18 w Round (room_in lent)) (records w) []) lent
  pub count : count_of r ≡ length (cond (question18 w Round (room_in lent)) (records w) [])

-- the promise of a message: the answer, the book with everything lent, the list of records as numbers, and how many there are
pub record Replied (w after : World) (f : Fields) (r : Result ℕ Refusal) (lent out : List ℤ) : Type 0 where
  pub number : number_of r ≡ answer w f (room_in lent)
  pub world : after ≡ step w f (room_in lent)
  pub list : out ≡ numbers_after (records_of w f (room_in lent)) lent
  pub count : count_of r ≡ length (records_of w f (room_in lent))
