-- The run of a list of messages as the rules have it, and the promise of a function that takes the list.
use Rattle.std.specs.Prelude.{ℕ, ◌-◌, ◌*◌, ◌≡◌, List, [], ◌∷◌, ◌++◌, ℤ, length, take, drop, replicate}
use Rattle.rules.specs.declared.Fields.{Fields}
use Rattle.rules.specs.Basics.{list_to}
use Rattle.rules.specs.World.{World}
use Rattle.rules.specs.Effects.{no_record, answer, step, records_of}
use Rattle.rules.specs.Claim.{Event, History, advance_all, begin}
use Rattle.ledger.specs.RecordNumbers.{numbers_after}
use Rattle.settlement.specs.Replies.{room_in}
use Rattle.settlement_book.specs.Numbers.{fields_size, fields_in}

-- ---- messages as numbers

-- the one at a place
abbrev pub fields_at : (numbers : List ℕ) → (i : ℕ) → Fields
fields_at inputs i = fields_in (take fields_size (drop (i * fields_size) inputs))

-- the first n of them
unfoldable pub messages_of : (numbers : List ℕ) → (count : ℕ) → List Fields
messages_of inputs n = list_to (fields_at inputs) n

-- ---- the rules' run

-- a message and a list with room for so many records. Of the list the rules read nothing but its length, so any list of that length would
-- do.
unfoldable pub lent_with : Fields → (room : ℕ) → Event
lent_with f room = record { fields = f; lent = replicate room no_record }

-- the events of a run: each message is lent the places that the records before it have left
unfoldable pub events_from : World → List Fields → (room : ℕ) → List Event
events_from w [] room = []
events_from w (f ∷ fs) room = lent_with f room ∷ events_from (step w f room) fs (room - length (records_of w f room))

-- where they lead; `begin` starts with no records
abbrev pub run_from : World → List Fields → (room : ℕ) → History
run_from w fs room = advance_all (begin w) (events_from w fs room)

-- and the answers to them, in order
unfoldable pub answers_to : World → List Event → List ℕ
answers_to w [] = []
answers_to w (v ∷ vs) = answer w v.fields (length v.lent) ∷ answers_to (step w v.fields (length v.lent)) vs

-- ---- the promise

-- the world, the list of records as numbers, how many records there are, and the table of answers, of which places past the last stay as
-- lent
pub record Followed (w after : World) (fs : List Fields) (count : ℕ) (lent out : List ℤ) (table answered : List ℕ) : Type 0 where
  pub world : after ≡ (run_from w fs (room_in lent)).world
  pub list : out ≡ numbers_after (run_from w fs (room_in lent)).records lent
  pub count-is : count ≡ length (run_from w fs (room_in lent)).records
  pub answers : answered ≡ answers_to w (events_from w fs (room_in lent)) ++ drop (length fs) table
