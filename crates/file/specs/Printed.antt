-- What is printed for a file, line by line, and demand 3 of it: `settle` prints the claim's run over the file's messages.
use Rattle.std.specs.Prelude.{ℕ, suc, ◌+◌, ◌≡◌, Bool, cond, length, replicate, eqb}
use mathlib.Core.List.{List, [], ◌∷◌, ◌++◌, Memᴰ}
use Rattle.std.specs.Prelude.{Option, None, Some}
use Rattle.rules.specs.declared.Fields.{Fields}
use Rattle.rules.specs.declared.Record.{Record}
use Rattle.rules.specs.Lines.{Measure}
use Rattle.rules.specs.World.{Opening, World, month_first, month_days, InBook}
use Rattle.rules.specs.Opening.{opened}
use Rattle.rules.specs.Effects.{no_record, answer, step, records_of}
use Rattle.rules.specs.Queries.{line_query, named}
use Rattle.rules.specs.Claim.{Event, History, reached, Split, up_to, total, balance_of, LastBalance, LastStands, Kept}
use Rattle.file.specs.Lines.{book_line, record_line, refused_line}
use Rattle.file.specs.Program.{settle_records, lent_for, settle_answer, settled}
use Rattle.file.specs.Contents.{Contents}

-- ---- lines of output

pub data OutputLine : Type 0 where
  book : Opening → OutputLine
  written : Record → OutputLine
  refused : (message question : ℕ) → OutputLine

unfoldable pub line_text : OutputLine → List ℕ
line_text (book o) = book_line o.year o.month (month_days o) (month_first o)
line_text (written r) = record_line r
line_text (refused message question) = refused_line message question

unfoldable pub text_of : List OutputLine → List ℕ
text_of [] = []
text_of (l ∷ ls) = line_text l ++ text_of ls

-- the records that were printed
unfoldable pub records_among : List OutputLine → List Record
records_among [] = []
records_among (book o ∷ ls) = records_among ls
records_among (written r ∷ ls) = r ∷ records_among ls
records_among (refused message question ∷ ls) = records_among ls

-- ---- the lines for messages

unfoldable pub written_all : List Record → List OutputLine
written_all [] = []
written_all (r ∷ rs) = written r ∷ written_all rs

-- a message's records, or its refusal
unfoldable pub lines_of : World → Fields → (number : ℕ) → List OutputLine
lines_of w f number =
    cond (eqb (answer w f settle_records) 0)
    (written_all (records_of w f settle_records))
    (refused number (answer w f settle_records) ∷ [])

-- messages, the first of this number
unfoldable pub lines_from : World → List Fields → (number : ℕ) → List OutputLine
lines_from w [] number = []
lines_from w (f ∷ fs) number = lines_of w f number ++ lines_from (step w f settle_records) fs (suc number)

-- ---- the lines for a file

-- "Refusals 1 to 4 print `refused 0 N` and end the run"
abbrev pub end_lines : (broken : Bool) → List OutputLine
end_lines broken = cond broken (refused 0 1 ∷ []) []

-- the book's line and those of messages
abbrev pub lines_to : Opening → List Fields → List OutputLine
lines_to o fs = book o ∷ lines_from (opened (lent_for o)) fs 1

unfoldable pub output_of : Option Contents → List OutputLine
output_of None = refused 0 1 ∷ []
output_of (Some c) =
    cond (eqb (settle_answer c.opening) 0)
    (lines_to c.opening c.messages.fields ++ end_lines c.messages.broken)
    (refused 0 (settle_answer c.opening) ∷ [])

-- ---- demand 3 of what is printed

-- a message with a list of 1,024 records, of which the rules read nothing but the length
unfoldable pub event_of : Fields → Event
event_of f =
    record {
      fields = f;
      lent = replicate settle_records no_record;
    }

unfoldable pub events_of : List Fields → List Event
events_of [] = []
events_of (f ∷ fs) = event_of f ∷ events_of fs

-- where messages have led the book that the opening leaves
abbrev pub reached_by : Opening → List Fields → History
reached_by o fs = reached (lent_for o) (events_of fs)

-- a file whose opening is accepted, with its messages, and whether a broken field ends them
pub record SettledAs (bytes : List ℕ) (o : Opening) (fs : List Fields) (broken : Bool) : Type 0 where
  -- the printed bytes are the text of these lines
  pub text : settled bytes ≡ text_of (lines_to o fs ++ end_lines broken)
  -- demand 3 of the file's messages
  pub kept : Kept (lent_for o) (events_of fs)
  -- each message's lines are those of its answer in the world that the claim's run has reached, behind those of the messages before it
  pub each : (x : Split fs)
      → lines_to o (up_to x) ≡ lines_to o x.before ++ lines_of (reached_by o x.before).world x.message (length x.before + 1)
  -- with them the printed bytes begin
  pub front : (x : Split fs)
      → settled bytes
      ≡ text_of (lines_to o (up_to x))
      ++ text_of (lines_from (reached_by o (up_to x)).world x.behind (length x.before + 2) ++ end_lines broken)
  -- the records among them are those that the claim's run has written
  pub records : (x : Split fs) → records_among (lines_to o (up_to x)) ≡ (reached_by o (up_to x)).records
  -- so after each accepted round the records printed so far add up to the lines as they then stand
  pub rounds : (x : Split fs) → x.message.kind ≡ 8 → answer (reached_by o x.before).world x.message settle_records ≡ 0
      → (m : Measure) (s e : ℕ) → InBook o s e
      → total m s e (records_among (lines_to o (up_to x))) ≡ named m (line_query (reached_by o (up_to x)).world s e)
  -- of the records printed so far, the last of each line carries their sum
  pub last_balance : (x : Split fs) (s e : ℕ) → InBook o s e → LastBalance s e (records_among (lines_to o (up_to x)))
  -- after each accepted round it is the line as it then stands
  pub round_balance : (x : Split fs) → x.message.kind ≡ 8 → answer (reached_by o x.before).world x.message settle_records ≡ 0
      → (s e : ℕ) → InBook o s e → LastStands s e (records_among (lines_to o (up_to x))) (reached_by o (up_to x)).world
  -- and each record that is printed for a message carries the line as it stands after it
  pub each_balance : (x : Split fs) (r : Record)
      → Memᴰ r (records_among (lines_of (reached_by o x.before).world x.message (length x.before + 1)))
      → balance_of r ≡ line_query (reached_by o (up_to x)).world r.supplier r.element
