-- A session of the program: what a turn takes in, what it promises, and how the program ends.
use Rattle.std.specs.Prelude.{ℕ, ◌+◌, ◌-◌, ◌≤◌, ◌<◌, ◌≡◌, ◌≢◌, Bool, true, false, cond, ⊤, Option, Result, Ok, Err}
use Rattle.std.specs.Prelude.{List, [], ◌++◌, length, take, eqb}
use Rattle.std.specs.Io.KnownBytes.{Appends, Consumes, IsAtEnd}
use Rattle.rules.specs.Lent.{Lists}
use Rattle.runner.specs.declared.Progress.{Progress}
use Rattle.runner.specs.declared.parts.Store.{Store}
use Rattle.runner.specs.Stages.{Stage, start}
use Rattle.runner.specs.Parts.{lists_in, Stocked}
use Rattle.runner.specs.Texts.{last_number}
use Rattle.runner.specs.Holding.{Represents, Stands, Reached, can_go_on, longest_field}
use Rattle.settle.specs.declared.Next.{Next}
use Rattle.settle.specs.declared.Session.{Session}
use Rattle.settle.specs.declared.Turned.{Turned}
use Rattle.settle.specs.declared.Failure.{Failure}

-- more bytes are needed
abbrev pub is_read : Next → Bool
is_read Next.Read = true
is_read Next.Held = false
is_read Next.Last = false

-- the input has ended
abbrev pub is_last : Next → Bool
is_last Next.Read = false
is_last Next.Held = false
is_last Next.Last = true

abbrev pub next_after : Next → (waits : Bool) → Next
next_after n waits = cond waits Next.Read (cond (is_last n) Next.Last Next.Held)

-- ---- a read

-- bytes have come behind those in hand: they are the next of the input, and none come behind its end
pub record Arrived (remaining remaining' : Option (List ℕ)) (s : Session) (buffer : List ℕ) (s' : Session) : Type 0 where
  pub come : List ℕ
  pub read : Consumes remaining remaining' come
  pub progress : s'.progress ≡ s.progress
  pub bytes : take s'.held buffer ≡ take s.held buffer ++ come
  pub held : s'.held ≤ length buffer
  pub ended : is_last s.next ≡ true → (is_last s'.next ≡ true) × (come ≡ [])
  pub at_end : is_read s.next ≡ true → is_last s'.next ≡ true → s.held < length buffer → IsAtEnd remaining'
  pub stays : is_read s.next ≡ false → (s' ≡ s) × (remaining' ≡ remaining)
  pub ready : is_read s'.next ≡ false

-- what `read_on` promises: bytes have come so, and the input has ended where the read has brought nothing, and only there
pub record Received (remaining remaining' : Option (List ℕ)) (s : Session) (buffer : List ℕ) (s' : Session) : Type 0 where
  pub arrived : Arrived remaining remaining' s buffer s'
  pub told : s.next ≡ Next.Read → is_last s'.next ≡ eqb s'.held s.held

-- ---- a turn

-- the bytes that the buffer has room for
abbrev pub buffer_size : ℕ
buffer_size = 65536

-- what is lent, and how many bytes are in hand
pub record Lent (s : Session) (t : Store) (buffer : List ℕ) : Type 0 where
  pub stocked : Stocked t
  pub stands : Stands s.progress (lists_in t)
  pub buffered : length buffer ≡ buffer_size
  pub held : s.held ≤ length buffer

-- Whatever follows the bytes in hand: what is printed for them and the rest is the text of this turn, and what is printed for the bytes
-- that are kept and the rest. So no byte is lost or taken twice.
pub record Turns (s : Session) (t : Lists) (buffer : List ℕ) (r : Turned) (t' : Lists) (buffer' out' : List ℕ) : Type 0 where
  pub reached : (stage : Stage) → Represents s.progress t stage
      → Reached (is_last s.next) stage (take s.held buffer) (take r.written out') r.session.progress t' (take r.session.held buffer')
  pub held : r.session.held ≤ length buffer'
  pub text : r.written ≤ length out'
  pub ended : is_last r.session.next ≡ is_last s.next
  -- it waits for bytes only where the input goes on, and has room for them
  pub waits : is_read r.session.next ≡ true → (is_last s.next ≡ false) × (r.session.held < longest_field)
  -- it stops only where no other field can be taken
  pub stops : can_go_on r.session.progress (is_read r.session.next) (length out' - r.written) ≡ false

-- ---- a session

-- before the first turn
pub record Begun (s : Session) : Type 0 where
  pub progress : (t : Lists) → Represents s.progress t start
  pub held : s.held ≡ 0
  pub next : s.next ≡ Next.Read

-- Whatever follows what was read so far: what is printed for all of it is what was handed over for writing so far, and what is printed for
-- the bytes in hand and the rest.
pub record Followed (s : Session) (t : Lists) (buffer read written : List ℕ) : Type 0 where
  pub reached : Reached (is_last s.next) start read written s.progress t (take s.held buffer)

-- so many turns can have been made from the beginning on, each from the progress that the one before it has left
pub data Made : ℕ → Session → Lists → Type 0 where
  begun : (s : Session) (t : Lists) → Begun s → Made 0 s t
  turned : (n : ℕ) (s s' : Session) (t t' : Lists) (buffer buffer' out' : List ℕ) (r : Turned) → Made n s t → s'.progress ≡ s.progress
      → Turns s' t buffer r t' buffer' out' → Made (n + 1) r.session t'

-- the run is over; or it is not, and why
abbrev pub Ends : {T : Type 0} → Result T Failure → Session → (turns : ℕ) → Type 0
Ends (Ok x) s turns = s.progress ≡ Progress.Over
Ends (Err Failure.Unwritten) s turns = ⊤
Ends (Err Failure.Unread) s turns = (s.next ≡ Next.Read) × (s.progress ≢ Progress.Over)
Ends (Err Failure.Unfinished) s turns = (turns ≡ last_number) × (s.progress ≢ Progress.Over)

-- a session has come to its end; where a write has failed, not all that was to be written was
pub record Ended {T : Type 0} (outcome : Result T Failure) (s : Session) (t : Lists) (buffer read written : List ℕ) : Type 0 where
  pub turns : ℕ
  pub made : Made turns s t
  pub followed : Followed s t buffer read written
  pub ends : Ends outcome s turns

-- what was handed over was written
abbrev pub Put : {T : Type 0} → Result T Failure → (contents contents' : Option (List ℕ)) → (written : List ℕ) → Type 0
Put (Ok x) contents contents' written = Appends contents contents' written
Put (Err Failure.Unwritten) contents contents' written = ⊤
Put (Err Failure.Unread) contents contents' written = Appends contents contents' written
Put (Err Failure.Unfinished) contents contents' written = Appends contents contents' written

-- what was read is what the reader gave, and what was handed over was written, unless a write has failed. No contract can name what the
-- operating system has delivered and taken: that its reader and writer do this is assumed.
pub record Carried {T : Type 0} (outcome : Result T Failure) (s : Session) (remaining remaining' contents contents' : Option (List ℕ))
    (read written : List ℕ) : Type 0 where
  pub taken : Consumes remaining remaining' read
  pub at_end : is_last s.next ≡ true → IsAtEnd remaining'
  pub put : Put outcome contents contents' written

-- the program's status
abbrev pub failure_status : Failure → ℕ
failure_status Failure.Unwritten = 1
failure_status Failure.Unread = 2
failure_status Failure.Unfinished = 3

abbrev pub status_of : {T : Type 0} → Result T Failure → ℕ
status_of (Ok x) = 0
status_of (Err f) = failure_status f
