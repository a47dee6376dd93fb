-- What a run from an opened book leaves: demand 3, of the book and the list of records as the function returns them.
use Rattle.std.specs.Prelude.{ℕ, ◌≤◌, ◌<◌, ◌≡◌, ◌≢◌, List, ℤ, length, get_or}
use Rattle.rules.specs.declared.Fields.{Fields}
use Rattle.rules.specs.declared.Record.{Record}
use Rattle.rules.specs.Lines.{Measure}
use Rattle.rules.specs.World.{World, InBook}
use Rattle.rules.specs.Opening.{opening_answer, opened}
use Rattle.rules.specs.Queries.{line_query, line_given, own_line, named}
use Rattle.rules.specs.Fresh.{fresh_facts}
use Rattle.rules.specs.Claim.{Event, History, reached, Split, up_to, total, balance_of, LastBalance, LastStands, Holds, Kept}
use Rattle.rules.specs.Basics.{list_to}
use Rattle.ledger.specs.RecordNumbers.{record_at}
use Rattle.settlement.specs.Replies.{room_in}
use Rattle.history.specs.Runs.{events_from, Followed}

-- the first n records of a list of numbers
abbrev pub records_in : (count : ℕ) → (numbers : List ℤ) → List Record
records_in n numbers = list_to (record_at numbers) n

-- the messages as the claim has them, from the book that the opening of w leaves
abbrev pub events_of : World → List Fields → (lent : List ℤ) → List Event
events_of w fs lent = events_from (opened w) fs (room_in lent)

-- and where they lead
abbrev pub reached_by : World → List Fields → (lent : List ℤ) → History
reached_by w fs lent = reached w (events_of w fs lent)

pub record FromOpening (w after : World) (fs : List Fields) (count : ℕ) (lent out : List ℤ) (answered : List ℕ) : Type 0 where
  -- demand 3 of these messages
  pub kept : Kept w (events_of w fs lent)
  -- the world that the function leaves is the claim's, and so are the records at the front of its list
  pub world : after ≡ (reached_by w fs lent).world
  pub records : records_in count out ≡ (reached_by w fs lent).records
  -- so every line of the book that is left is what fresh settlement gives, and the rules' sum of the book's own tables
  pub fresh : (s e : ℕ) → InBook w.opening s e
      → line_query after s e ≡ line_given w.opening (fresh_facts (reached_by w fs lent).fresh) s e
  pub sums : (s e : ℕ) → InBook w.opening s e → line_query after s e ≡ own_line after s e
  -- each message has changed only lines of suppliers who hold its point, before or after it
  pub local : (x : Split fs) (s e : ℕ) → InBook w.opening s e
      → (Holds w.opening (reached_by w x.before lent).fresh s x.message.point → ⊥)
      → (Holds w.opening (reached_by w (up_to x) lent).fresh s x.message.point → ⊥)
      → line_query (reached_by w (up_to x) lent).world s e ≡ line_query (reached_by w x.before lent).world s e
  -- after each round that was answered 0, the records that stood in the list by then add up to the lines as they then stood
  pub rounds : (x : Split fs) → x.message.kind ≡ 8 → get_or answered (length x.before) 0 ≡ 0
      → (m : Measure) (s e : ℕ) → InBook w.opening s e
      → total m s e (records_in (length (reached_by w (up_to x) lent).records) out)
      ≡ named m (line_query (reached_by w (up_to x) lent).world s e)
  -- of the records that stood in the list after a message, the last of each line carries their sum
  pub last_balance : (x : Split fs) (s e : ℕ) → InBook w.opening s e
      → LastBalance s e (records_in (length (reached_by w (up_to x) lent).records) out)
  -- after each round that was answered 0 it is the line as it then stood
  pub round_balance : (x : Split fs) → x.message.kind ≡ 8 → get_or answered (length x.before) 0 ≡ 0
      → (s e : ℕ) → InBook w.opening s e
      → LastStands s e (records_in (length (reached_by w (up_to x) lent).records) out) (reached_by w (up_to x) lent).world
  -- and each that a message has written behind those before it carries the line as it then stood
  pub each_balance : (x : Split fs) (i : ℕ) → length (reached_by w x.before lent).records ≤ i
      → i < length (reached_by w (up_to x) lent).records
      → balance_of (record_at out i)
      ≡ line_query (reached_by w (up_to x) lent).world (record_at out i).supplier (record_at out i).element

-- what a function promises that opens a month in the world w and then runs the list: the rules' run and demand 3 where the opening is
-- accepted, and everything as it was where it is refused
pub record OpensAndRuns (w after : World) (fs : List Fields) (answer count : ℕ) (lent out : List ℤ) (table answered : List ℕ) : Type 0 where
  pub number : answer ≡ opening_answer w
  pub followed : answer ≡ 0 → Followed (opened w) after fs count lent out table answered
  pub kept : answer ≡ 0 → FromOpening w after fs count lent out answered
  pub refused : answer ≢ 0 → (after ≡ w) × (count ≡ 0) × (out ≡ lent) × (answered ≡ table)
