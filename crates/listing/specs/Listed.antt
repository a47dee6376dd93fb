-- A message's reply where a list of records is lent: document 01's answer, step and list; and with the records as numbers on the way.
use Rattle.std.specs.Prelude.{ℕ, ◌≤◌, ◌<◌, ◌≡◌, List, ℤ, length, Result}
use Rattle.rules.specs.declared.Fields.{Fields}
use Rattle.rules.specs.declared.Record.{Record}
use Rattle.rules.specs.declared.Refusal.{Refusal}
use Rattle.rules.specs.Basics.{list_to}
use Rattle.rules.specs.World.{World}
use Rattle.rules.specs.Effects.{answer, step, records_of, list_after}
use Rattle.rules.specs.Answers.{number_of}
use Rattle.ledger.specs.RecordNumbers.{record_at, RecordPlaces}
use Rattle.settlement.specs.Replies.{count_of}

-- the answer, the book with everything lent, the list, and how many records there are
pub record Listed (w after : World) (f : Fields) (r : Result ℕ Refusal) (lent out : List Record) : Type 0 where
  pub number : number_of r ≡ answer w f (length lent)
  pub world : after ≡ step w f (length lent)
  pub list : out ≡ list_after w f lent
  pub count : count_of r ≡ length (records_of w f (length lent))

-- the same with room for so many records, which stand at the front of a list of numbers
pub record Numbered (w after : World) (f : Fields) (r : Result ℕ Refusal) (room : ℕ) (numbers : List ℤ) : Type 0 where
  pub number : number_of r ≡ answer w f room
  pub world : after ≡ step w f room
  pub count : count_of r ≡ length (records_of w f room)
  pub few : count_of r ≤ room
  pub placed : (i : ℕ) → i < count_of r → RecordPlaces numbers i
  pub read : list_to (record_at numbers) (count_of r) ≡ records_of w f room
