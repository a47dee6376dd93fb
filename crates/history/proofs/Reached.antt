-- A run from an opened book is the run that demand 3 speaks of. By the function's promise and the proof of demand 3; the records are read
-- back from the list number by number.
use Prim.Native.Nat.{ℕ, zero, suc, ◌+◌, ◌-◌, ◌≤◌, ◌<◌}
use mathlib.Core.Path.{◌≡◌, refl, sym, ap, ap₂, ◌∙◌}
use mathlib.Core.Logic.{◌≢◌}
use mathlib.Core.List.{List, [], ◌∷◌, ◌++◌, append_assoc, Memᴰ}
use lib.IntN.{ℤ}
use lib.ListN.{length, get_or, drop, length-append}
use lib.Seq.{get_or_at, get_or-append-add}
use native.Mathlib.Omega.{arith}
use borrow.Author.Tests.{ne_eqb}
use Rattle.rules.specs.declared.Fields.{Fields}
use Rattle.rules.specs.declared.Record.{Record}
use Rattle.rules.specs.Lines.{Measure}
use Rattle.rules.specs.World.{World, InBook}
use Rattle.rules.specs.Effects.{no_record, answer, step, records_of}
use Rattle.rules.specs.Opening.{opening_answer, opened, after_opening}
use Rattle.rules.specs.Queries.{line_query, named}
use Rattle.rules.specs.Claim.{Event, History, advance, advance_all, begin, Split, up_to, total, balance_of, LastBalance, LastStands, Holds}
use Rattle.rules.proofs.Demand3.{demand3, advance-append, advance_snoc, records_from, records-behind}
use Rattle.rules.proofs.Ranges.{get_d_list_to}
use Rattle.ledger.specs.RecordNumbers.{numbers_after, record_at}
use Rattle.ledger.proofs.RecordNumbers.{records-read}
use Rattle.settlement.specs.Replies.{room_in}
use Rattle.history.specs.Runs.{lent_with, events_from, run_from, answers_to, Followed}
use Rattle.history.specs.FromOpening.{records_in, events_of, reached_by, FromOpening, OpensAndRuns}
use Rattle.history.proofs.Turns.{places_left, world_left, events_append, answers-append, events_more, length-answers, front_read}

-- ---- one message of the list

module _ (w : World) (room : ℕ) {fs : List Fields} (x : Split fs) where
  abbrev event : Event
  event = lent_with x.message (places_left w x.before room)

  abbrev before_it : List Event
  before_it = events_from w x.before room

  abbrev behind_it : List Event
  behind_it = events_from (step (world_left w x.before room) x.message (places_left w x.before room)) x.behind
      (places_left w x.before room
      - length (records_of (world_left w x.before room) x.message (places_left w x.before room)))

  events_split : events_from w fs room ≡ before_it ++ (event ∷ behind_it)
  unfolding events_from
  events_split = ap (λ (gs : List Fields). events_from w gs room) x.is ∙ events_append w x.before (x.message ∷ x.behind) room

  -- the events are split where the messages are
  abbrev split_events : Split (events_from w fs room)
  split_events = record { before = before_it; message = event; behind = behind_it; is = events_split }

  -- its answer stands behind those before it
  answer_at : (rest : List ℕ) → get_or (answers_to w (events_from w fs room) ++ rest) (length x.before) 0
      ≡ answer (run_from w x.before room).world event.fields (length event.lent)
  unfolding begin answers_to
  answer_at rest =
      rw (events_split, answers-append (begin w) before_it (event ∷ behind_it), append_assoc)
      (get_or_at (answers_to w before_it) _ _ 0 (length x.before) (length-answers w x.before room w))

  -- the records up to it stand before those of the messages behind it
  records-front : (run_from w fs room).records ≡ (run_from w (up_to x) room).records ++ records_from (run_from w (up_to x) room) behind_it
  records-front =
      rw (events_split, events_more w x.before x.message room, ← append_assoc before_it (event ∷ []) behind_it)
      (ap (λ (h : History). h.records) (advance-append (begin w) (before_it ++ (event ∷ [])) behind_it) ∙ records-behind _ behind_it)

-- ---- demand 3 of the function's run

member_at : (rs : List Record) (i : ℕ) → i < length rs → Memᴰ (get_or rs i no_record) rs
member_at [] i h = absurd (omega arith)
member_at (r ∷ rs) zero h = Memᴰ.head refl
member_at (r ∷ rs) (suc i) h = Memᴰ.tail (member_at rs i (omega arith))

module _ (w after : World) (fs : List Fields) (count : ℕ) (lent out : List ℤ) (table answered : List ℕ)
    (a : opening_answer w ≡ 0) (g : Followed (opened w) after fs count lent out table answered) where
  read_back : records_in count out ≡ (reached_by w fs lent).records
  read_back = ap₂ records_in g.count-is g.list ∙ records-read (reached_by w fs lent).records lent

  module _ (x : Split fs) where
    abbrev y : Split (events_of w fs lent)
    y = split_events (opened w) (room_in lent) x

    to-here : up_to y ≡ events_of w (up_to x) lent
    to-here = sym (events_more (opened w) x.before x.message (room_in lent))

    front_back : records_in (length (reached_by w (up_to x) lent).records) out ≡ (reached_by w (up_to x) lent).records
    front_back = ap (records_in (length (reached_by w (up_to x) lent).records))
        (g.list ∙ ap (λ rs. numbers_after rs lent) (records-front (opened w) (room_in lent) x))
        ∙ front_read (reached_by w (up_to x) lent).records _ lent

    local_at : (s e : ℕ) → InBook w.opening s e
        → (Holds w.opening (reached_by w x.before lent).fresh s x.message.point → ⊥)
        → (Holds w.opening (reached_by w (up_to x) lent).fresh s x.message.point → ⊥)
        → line_query (reached_by w (up_to x) lent).world s e ≡ line_query (reached_by w x.before lent).world s e
    unfolding lent_with
    local_at s e b n r = rw to-here at ((demand3 w a (events_of w fs lent)).local y s e b n (rw to-here r))

    -- the answer in the table is the rules'
    answered-here : get_or answered (length x.before) 0 ≡ 0
        → answer (reached_by w x.before lent).world y.message.fields (length y.message.lent) ≡ 0
    answered-here z = sym (answer_at (opened w) (room_in lent) x (drop (length fs) table))
        ∙ ap (λ l. get_or l (length x.before) 0) (sym g.answers) ∙ z

    rounds-add : x.message.kind ≡ 8 → get_or answered (length x.before) 0 ≡ 0
        → (m : Measure) (s e : ℕ) → InBook w.opening s e
        → total m s e (records_in (length (reached_by w (up_to x) lent).records) out)
        ≡ named m (line_query (reached_by w (up_to x) lent).world s e)
    unfolding lent_with
    rounds-add k z m s e b =
        ap (total m s e) front_back ∙ rw to-here at ((demand3 w a (events_of w fs lent)).rounds y k (answered-here z) m s e b)

    last-at : (s e : ℕ) → InBook w.opening s e → LastBalance s e (records_in (length (reached_by w (up_to x) lent).records) out)
    last-at s e b = rw front_back ((demand3 w a (events_of w (up_to x) lent)).last_balance s e b)

    round-at : x.message.kind ≡ 8 → get_or answered (length x.before) 0 ≡ 0 → (s e : ℕ) → InBook w.opening s e
        → LastStands s e (records_in (length (reached_by w (up_to x) lent).records) out) (reached_by w (up_to x) lent).world
    unfolding lent_with
    round-at k z s e b =
        rw front_back (rw to-here at ((demand3 w a (events_of w fs lent)).round_balance y k (answered-here z) s e b))

    -- the records before the message, and those that it has written
    abbrev earlier : List Record
    earlier = (reached_by w x.before lent).records

    abbrev here : List Record
    here = records_of (reached_by w x.before lent).world y.message.fields (length y.message.lent)

    written-here : (reached_by w (up_to x) lent).records ≡ earlier ++ here
    unfolding advance
    written-here = ap (λ vs. (advance_all (begin (opened w)) vs).records) (sym to-here)
        ∙ ap (λ (h : History). h.records) (advance_snoc (begin (opened w)) y.before y.message)

    module _ (i : ℕ) (low : length earlier ≤ i) (high : i < length (reached_by w (up_to x) lent).records) where
      abbrev place : ℕ
      place = i - length earlier

      record_here : record_at out i ≡ get_or here place no_record
      record_here =
          let n : i ≡ length earlier + place = omega arith in
          sym (get_d_list_to (record_at out) (length (reached_by w (up_to x) lent).records) i no_record high)
          ∙ ap (λ (rs : List Record). get_or rs i no_record) (front_back ∙ written-here)
          ∙ ap (λ (k : ℕ). get_or (earlier ++ here) k no_record) n
          ∙ get_or-append-add earlier here place no_record

      place_here : place < length here
      place_here = let n = ap length written-here ∙ length-append earlier here in omega arith

      each_at : balance_of (record_at out i)
          ≡ line_query (reached_by w (up_to x) lent).world (record_at out i).supplier (record_at out i).element
      each_at = rw record_here (rw to-here at ((demand3 w a (events_of w fs lent)).each_balance y (get_or here place no_record)
          (member_at here place place_here)))

  from-opened : FromOpening w after fs count lent out answered
  from-opened =
      let k = demand3 w a (events_of w fs lent) in
      record {
        kept = k;
        world = g.world;
        records = read_back;
        fresh = λ s e b. rw g.world (k.fresh s e b);
        sums = λ s e b. rw g.world (k.sums s e b);
        local = local_at;
        rounds = rounds-add;
        last_balance = last-at;
        round_balance = round-at;
        each_balance = each_at;
      }

-- For callers: a run whose promise starts from the book that an accepted opening leaves has demand 3, with the world and the records that
-- it returns.
pub run-from-opening : (w start after : World) (fs : List Fields) (count : ℕ) (lent out : List ℤ) (table answered : List ℕ)
    → opening_answer w ≡ 0 → start ≡ opened w → Followed start after fs count lent out table answered
    → FromOpening w after fs count lent out answered
run-from-opening w start after fs count lent out table answered a e g = from-opened w after fs count lent out table answered a (rw e at g)

-- For a function that opens the world w and runs the list from what that leaves.
module _ (w mid : World) (m : mid ≡ after_opening w) (fs : List Fields) where
  pub opening-refused : (a : ℕ) → a ≡ opening_answer w → a ≢ 0 → (lent : List ℤ) (table : List ℕ)
      → OpensAndRuns w mid fs a 0 lent lent table table
  unfolding after_opening
  opening-refused a n z lent table =
      let k : mid ≡ w = m ∙ rw (ne_eqb (opening_answer w) 0 (λ e. z (n ∙ e))) in
      record {
        number = n;
        followed = λ e. absurd (z e);
        kept = λ e. absurd (z e);
        refused = λ _. (k, refl, refl, refl);
      }

  pub opened_and_run : opening_answer w ≡ 0 → (after : World) (count : ℕ) (lent out : List ℤ) (table answered : List ℕ)
      → Followed mid after fs count lent out table answered → OpensAndRuns w after fs 0 count lent out table answered
  unfolding after_opening
  opened_and_run z after count lent out table answered g =
      let s : mid ≡ opened w = m ∙ rw z in
      record {
        number = sym z;
        followed = λ _. rw s at g;
        kept = λ _. run-from-opening w mid after fs count lent out table answered z s g;
        refused = λ x. absurd (x refl);
      }
