-- A turn, from the promises of the functions that it calls: the run's, for the bytes in hand, and that the bytes which are kept are those
-- that the run has left. And the session's loop, by joining the runs of its turns.
use mathlib.Core.Path.{◌≡◌, refl, sym, ap, ◌∙◌}
use mathlib.Core.Logic.{◌≢◌}
use Rattle.std.specs.Prelude.{Option, Some, None, Result, Ok, Err}
use Rattle.std.specs.Io.KnownBytes.{Appends, Consumes, IsAtEnd}
use Prim.Native.Nat.{ℕ, ◌+◌, ◌-◌, ◌≤◌, ◌<◌}
use mathlib.Core.Bool.{Bool, true, false}
use mathlib.Core.List.{List, [], ◌++◌, append_assoc, append-nil}
use lib.ListN.{length, take, drop}
use lib.Seq.{length-take-le}
use native.Mathlib.Omega.{arith}
use Rattle.std.specs.List.{copy_within}
use Rattle.rules.specs.Lent.{Lists}
use Rattle.rules.proofs.Tests.{cases}
use Rattle.runner.specs.declared.Ran.{Ran}
use Rattle.file.specs.Program.{settled}
use Rattle.runner.specs.declared.Progress.{Progress}
use Rattle.runner.specs.declared.parts.Store.{Store}
use Rattle.runner.specs.Stages.{Stage, start, over, printed}
use Rattle.runner.specs.Parts.{lists_in, Stocked}
use Rattle.runner.specs.Holding.{Represents, Reached, Stopped, longest_field}
use Rattle.runner.proofs.StageLaws.{never}
use Rattle.runner.proofs.RunLaws.{run-over, runs_joined}
use Rattle.settle.specs.declared.Next.{Next}
use Rattle.settle.specs.declared.Session.{Session}
use Rattle.settle.specs.declared.Turned.{Turned}
use Rattle.settle.specs.Sessions.{is_read, is_last, next_after, Arrived, Turns, buffer_size, Lent, Begun, Followed, Made, Ended, Carried}
use Rattle.settle.specs.declared.Failure.{Failure}
use Rattle.settle.proofs.Pieces.{kept}

reads_after : (n : Next) (w : Bool) → is_read (next_after n w) ≡ w
reads_after n true = refl
reads_after n false = cases (is_last n) (λ l. rw l) (λ l. rw l)

ends_after : (n : Next) (w : Bool) → (w ≡ true → is_last n ≡ false) → is_last (next_after n w) ≡ is_last n
ends_after n true h = sym (h refl)
ends_after n false h = cases (is_last n) (λ l. rw l) (λ l. rw l)

module _ (s : Session) (t : Lists) (buffer out : List ℕ) (ran : Ran) (t' : Lists) (out' : List ℕ) (ended : Bool)
    (e : ended ≡ is_last s.next) (h : s.held ≤ length buffer)
    (r : (stage : Stage) → Represents s.progress t stage
    → Reached ended stage (drop 0 (take s.held buffer)) (take ran.written out') ran.progress t' (drop ran.next (take s.held buffer)))
    (z : Stopped (take s.held buffer) ended out out' ran)
  where
    long : length (take s.held buffer) ≡ s.held
    long = length-take-le s.held buffer h

    before : ran.next ≤ s.held
    before = omega (arith, z.place, long)

    pub turns_so : (buffer' : List ℕ) → buffer' ≡ copy_within buffer ran.next s.held 0 → length buffer' ≡ length buffer
        → Turns s t buffer (record {
          session = record { progress = ran.progress; held = s.held - ran.next; next = next_after s.next ran.waits };
          written = ran.written;
        }) t' buffer' out'
    turns_so buffer' k l =
        record {
          reached = λ stage p. rw (← e, k, kept buffer ran.next s.held before h) (r stage p);
          held = omega (arith, l, h);
          text = z.text;
          ended = ends_after s.next ran.waits (λ w. sym e ∙ (z.waits w).0);
          waits = λ w. let x = z.waits (sym (reads_after s.next ran.waits) ∙ w) in (sym e ∙ x.0, omega (arith, x.1, long));
          stops = rw (reads_after s.next ran.waits) z.stops;
        }

-- ---- what was read and written so far

consumes_on : (a b c : Option (List ℕ)) (xs ys : List ℕ) → Consumes a b xs → Consumes b c ys → Consumes a c (xs ++ ys)
consumes_on None b c xs ys p q = tt
consumes_on (Some x) None c xs ys p q = elim p [ ]
consumes_on (Some x) (Some y) None xs ys p q = elim q [ ]
consumes_on (Some x) (Some y) (Some z) xs ys p q = p ∙ ap (λ (l : List ℕ). xs ++ l) q ∙ sym (append_assoc xs ys z)

appends_on : (a b c : Option (List ℕ)) (xs ys : List ℕ) → Appends a b xs → Appends b c ys → Appends a c (xs ++ ys)
appends_on None b c xs ys p q = tt
appends_on (Some x) None c xs ys p q = elim p [ ]
appends_on (Some x) (Some y) None xs ys p q = elim q [ ]
appends_on (Some x) (Some y) (Some z) xs ys p q = q ∙ ap (λ (l : List ℕ). l ++ ys) p ∙ append_assoc x xs ys

-- a turn more: the bytes that have come are read, and the text of the turn is handed over for writing
module _ (s : Session) (t : Lists) (before buffer read written : List ℕ) (f : Followed s t before read written)
    (k : take s.held buffer ≡ take s.held before) (remaining remaining' : Option (List ℕ)) (s' : Session)
    (a : Arrived remaining remaining' s buffer s') (r : Turned) (t' : Lists) (buffer' out' : List ℕ) (u : Turns s' t buffer r t'
    buffer' out')
  where
    pub followed_on : Followed r.session t' buffer' (read ++ a.come) (written ++ take r.written out')
    followed_on =
        let q = rw (a.bytes, k) at (u.reached f.reached.stage (rw a.progress f.reached.holds)) in
        record {
          reached = rw u.ended (runs_joined (is_last s.next) (is_last s'.next) start read a.come written (take r.written out')
              s.progress r.session.progress t t' (take s.held before) (take r.session.held buffer') a.ended f.reached q);
        }

-- what was handed over is the text for all that the reader had, where the run is over
pub settled_so : (s : Session) (t : Lists) (buffer read written : List ℕ) → Followed s t buffer read written
    → s.progress ≡ Progress.Over → (given : List ℕ) (rest : Option (List ℕ)) → Consumes (Some given) rest read
    → (is_last s.next ≡ true → IsAtEnd rest) → written ≡ settled given
unfolding printed
settled_so s t buffer read written f o given None c e = elim c [ ]
settled_so s t buffer read written f o given (Some left) c e =
    let r = rw o at f.reached in
    rw c (sym (run-over (is_last s.next) start read written t (take s.held buffer) r left e))

-- ---- the session's loop

pub record Going (turns : ℕ) (s : Session) (t : Store) (buffer : List ℕ) (remaining remaining' contents contents' : Option (List ℕ))
    : Type 0 where
  pub made : Made turns s (lists_in t)
  pub ready : Lent s t buffer
  pub room : is_read s.next ≡ true → s.held < longest_field
  pub more : s.progress ≢ Progress.Over
  pub read : List ℕ
  pub written : List ℕ
  pub followed : Followed s (lists_in t) buffer read written
  pub taken : Consumes remaining remaining' read
  pub at_end : is_last s.next ≡ true → IsAtEnd remaining'
  pub put : Appends contents contents' written

no_bytes : (a : Option (List ℕ)) → Consumes a a []
no_bytes None = tt
no_bytes (Some x) = refl

no_text : (a : Option (List ℕ)) → Appends a a []
no_text None = tt
no_text (Some x) = sym (append-nil x)

start_over : {P : Type 0} → start ≡ over → P
start_over e = cc

-- before the first turn nothing was read or written
pub going_first : (s : Session) (t : Store) (buffer : List ℕ) (remaining contents : Option (List ℕ)) → Begun s → Stocked t
    → length buffer ≡ buffer_size → Going 0 s t buffer remaining remaining contents contents
going_first s t buffer remaining contents b z l =
    record {
      made = Made.begun s (lists_in t) b;
      ready = record {
        stocked = z;
        stands = record { stage = start; holds = b.progress (lists_in t) };
        buffered = l;
        held = rw b.held (omega arith);
      };
      room = λ w. rw b.held (omega arith);
      more = λ o. start_over (rw o at (b.progress (lists_in t)));
      read = [];
      written = [];
      followed = record {
        reached = rw (b.held, b.next) (record { stage = start; holds = b.progress (lists_in t); same = λ rest e. refl });
      };
      taken = no_bytes remaining;
      at_end = λ e. never (sym (rw b.next at e));
      put = no_text contents;
    }

-- a read and a turn more
module _ (turns : ℕ) (s : Session) (t : Store) (before : List ℕ) (remaining rest contents put : Option (List ℕ))
    (g : Going turns s t before remaining rest contents put) (buffer : List ℕ) (k : take s.held buffer ≡ take s.held before)
    (rest' : Option (List ℕ)) (s' : Session) (a : Arrived rest rest' s buffer s') (r : Turned) (t' : Store) (buffer' out' : List ℕ)
    (u : Turns s' (lists_in t) buffer r (lists_in t') buffer' out') (l : length buffer ≡ length before)
  where
    abbrev read' : List ℕ
    read' = g.read ++ a.come

    abbrev text : List ℕ
    text = take r.written out'

    made-on : Made (turns + 1) r.session (lists_in t')
    made-on = Made.turned turns s s' (lists_in t) (lists_in t') buffer buffer' out' r g.made a.progress u

    follows : Followed r.session (lists_in t') buffer' read' (g.written ++ text)
    follows = followed_on s (lists_in t) before buffer g.read g.written g.followed k rest rest' s' a r (lists_in t') buffer' out' u

    taken-on : Consumes remaining rest' read'
    taken-on = consumes_on remaining rest rest' g.read a.come g.taken a.read

    ended-on : is_last r.session.next ≡ true → IsAtEnd rest'
    ended-on e = cases (is_read s.next)
        (λ z. let h = g.room z in a.at_end z (sym u.ended ∙ e) (omega (arith, g.ready.buffered, l, h)))
        (λ z.
        let q = a.stays z in
        rw q.1 (g.at_end (ap (λ (x : Session). is_last x.next) (sym q.0) ∙ sym u.ended ∙ e)))

    module _ (put' : Option (List ℕ)) (w : Appends put put' text) where
      -- the run is over
      pub over_so : r.session.progress ≡ Progress.Over → (x : Session) × (y z : List ℕ) × Ended {T = Unit {0}} (Ok tt) x (lists_in
          t') buffer' y z
          × Carried {T = Unit {0}} (Ok tt) x remaining rest' contents put' y z
      over_so o = (
        r.session,
        read',
        g.written ++ text,
        record { turns = turns + 1; made = made-on; followed = follows; ends = o },
        record { taken = taken-on; at_end = ended-on; put = appends_on contents put put' g.written text g.put w },
      )

      -- and has printed all
      pub settles_so : r.session.progress ≡ Progress.Over → (given : List ℕ) → remaining ≡ Some given
          → Appends contents put' (settled given)
      settles_so o given e =
          let k : g.written ++ text ≡ settled given =
          settled_so r.session (lists_in t') buffer' read' (g.written ++ text) follows o given rest' (rw e at taken-on) ended-on in
          rw (← k) (appends_on contents put put' g.written text g.put w)

      -- it goes on
      pub going_on : r.session.progress ≢ Progress.Over → Stocked t' → length buffer' ≡ length buffer
          → Going (turns + 1) r.session t' buffer' remaining rest' contents put'
      going_on o z m =
          let d = u.reached g.ready.stands.stage (rw a.progress g.ready.stands.holds) in
          record {
            made = made-on;
            ready = record {
              stocked = z;
              stands = record { stage = d.stage; holds = d.holds };
              buffered = m ∙ l ∙ g.ready.buffered;
              held = u.held;
            };
            room = λ e. (u.waits e).1;
            more = o;
            read = read';
            written = g.written ++ text;
            followed = follows;
            taken = taken-on;
            at_end = ended-on;
            put = appends_on contents put put' g.written text g.put w;
          }

    -- the text could not be written
    pub unwritten_so : (put' : Option (List ℕ)) → (outcome : Result (Unit {0}) Failure) → outcome ≡ Err Failure.Unwritten
        → (x : Session) × (y z : List ℕ) × Ended {T = Unit {0}} outcome x (lists_in t') buffer' y z
        × Carried {T = Unit {0}} outcome x remaining rest' contents put' y z
    unwritten_so put' outcome e = (
      r.session,
      read',
      g.written ++ text,
      rw e (record { turns = turns + 1; made = made-on; followed = follows; ends = tt }),
      rw e (record { taken = taken-on; at_end = ended-on; put = tt }),
    )
