-- A message of a well-formed book: each way through the code ends in the rules' answer and step, by the questions that have passed on the
-- way.
use Prim.Native.Nat.{ℕ, ◌+◌, ◌≤◌, ◌<◌, min}
use mathlib.Core.Path.{◌≡◌, refl, sym, ap, ap₂, subst, ◌∙◌}
use mathlib.Core.Logic.{◌≢◌}
use mathlib.Core.Bool.{true, false, false≢true}
use mathlib.Core.List.{List}
use Rattle.std.specs.Prelude.{Option, None, Some, Result, IsErrAnd}
use Rattle.std.specs.Option.{ok_or}
use Rattle.std.proofs.lemmas.Result.{err_from_is_err_and}
use lib.IntN.{ℤ}
use lib.ListN.{length}
use lib.Dec.{leb}
use borrow.Author.Tests.{ne_eqb, le-leb, lt-leb}
use native.Mathlib.Omega.{arith}
use Rattle.rules.specs.declared.Book.{Book}
use Rattle.rules.specs.declared.Body.{Body}
use Rattle.rules.specs.declared.Body.TheVariants.{Link, Stop, Quantity, Holder, State, Reading, Block, Round}
use Rattle.rules.specs.declared.Fields.{Fields}
use Rattle.rules.specs.declared.Lent.{Lent}
use Rattle.rules.specs.declared.OpenBook.{OpenBook}
use Rattle.rules.specs.declared.Message.{Message}
use Rattle.rules.specs.declared.Refusal.{Refusal}
use Rattle.rules.specs.declared.Refusal.TheVariants.{OutOfRange}
use Rattle.rules.specs.Answers.{number_of}
use Rattle.rules.specs.World.{World, facts_of, holder_on, state_on, energy_of}
use Rattle.rules.specs.WellFormed.{rows_fit, within_limits, question2}
use Rattle.rules.specs.Messages.{understood, body_in}
use Rattle.rules.specs.Sizes.{last_round}
use Rattle.rules.specs.Effects.{told, with_blocks, is_round, writes_row, written, records, tables_after, lines_after, sent_after}
use Rattle.rules.specs.Effects.{posted, ask, question17}
use Rattle.rules.specs.Effects.{question18, answer_to, answer, accepted, step_by, step, written_by, records_of}
use Rattle.rules.specs.Lent.{Lists, world_in, lend_money, lists_of, lent_world, open_lists, open_world}
use Rattle.rules.specs.Whole.{Whole}
use Rattle.rules.specs.Ready.{Ready}
use Rattle.rules.proofs.Tests.{cases, both}
use Rattle.rules.proofs.Parts.{formed}
use Rattle.rules.proofs.BookLaws.{whole-asked}
use Rattle.rules.proofs.Passed.{behind, taken}
use Rattle.rules.proofs.Kept.{posted-whole}
use Rattle.validation.specs.Decided.{decided}
use Rattle.validation.proofs.Next.{answer-decided, decided_passed, decided-refused}
use Rattle.recording.specs.Recorded.{recorded_in}
use Rattle.ledger.specs.Moved.{lines_in, line_records, moved_count}
use Rattle.ledger.specs.RecordNumbers.{numbers_after}
use Rattle.ledger.proofs.RecordNumbers.{numbers_none}
use Rattle.ledger.proofs.MovedLines.{moved_none}
use Rattle.ledger.proofs.RoundLaws.{count-is, round-records, round-written, other_written, other_sent}
use Rattle.settlement.specs.Replies.{room_in, count_of, moved_on, Applied, sent_on, Sending, Replied}

-- ---- answers that refuse and answers that accept

module _ (w : World) (f : Fields) (room : ℕ) where
  refused_none : answer w f room ≢ 0 → accepted w f room ≡ None
  unfolding accepted
  refused_none h = rw (ne_eqb (answer w f room) 0 h)

  accepted-some : answer w f room ≡ 0 → (m : Message) → understood w.opening.suppliers f ≡ Some m → accepted w f room ≡ Some m.body
  unfolding accepted body_in
  accepted-some h m u = rw (h, u)

-- a refusal leaves everything as it was
pub replied_refused : (w after : World) (f : Fields) (r : Result ℕ Refusal) (lent out : List ℤ) (n : ℕ) → answer w f (room_in lent) ≡ n
    → n ≢ 0
    → number_of r ≡ n → after ≡ w → out ≡ lent → count_of r ≡ 0 → Replied w after f r lent out
unfolding step step_by records_of written_by
replied_refused w after f r lent out n e z a v l k =
    let q = refused_none w f (room_in lent) (λ y. z (sym e ∙ y)) in
    record { number = a ∙ sym e; world = v ∙ rw q; list = l ∙ rw q (numbers_none lent); count = rw q k }

-- and an acceptance leaves the world with the message posted
replied_accepted : (w after : World) (f : Fields) (r : Result ℕ Refusal) (lent out : List ℤ) (m : Message)
    → understood w.opening.suppliers f ≡ Some m → answer w f (room_in lent) ≡ 0 → number_of r ≡ 0
    → after ≡ posted w m.body → out ≡ numbers_after (written w m.body) lent → count_of r ≡ length (written w m.body)
    → Replied w after f r lent out
unfolding step step_by records_of written_by
replied_accepted w after f r lent out m u e a v l k =
    let q = accepted-some w f (room_in lent) e m u in
    record { number = a ∙ sym e; world = rw q v; list = rw q l; count = rw q k }

-- ---- of a well-formed book

module _ (w : World) (c : Whole w) (f : Fields) (room : ℕ) where
  asked-whole : answer w f room ≡ answer_to w (understood w.opening.suppliers f) room
  unfolding answer
  asked-whole = whole-asked w c _

  -- question 6
  pub answer_none : understood w.opening.suppliers f ≡ None → answer w f room ≡ 6
  unfolding answer_to
  answer_none u = asked-whole ∙ ap (λ x. answer_to w x room) u

  module _ (m : Message) (u : understood w.opening.suppliers f ≡ Some m) where
    abbrev rest : ℕ
    rest = ask (question17 w m.body) 17 (ask (question18 w m.body room) 18 0)

    answer-some : answer w f room ≡ decided w.opening w.position.tables m rest
    answer-some = asked-whole ∙ ap (λ x. answer_to w x room) u ∙ answer-decided w m room

    -- questions 7 to 16
    pub answer-refused : decided w.opening w.position.tables m 0 ≢ 0
        → answer w f room ≡ decided w.opening w.position.tables m 0
    answer-refused h = answer-some ∙ decided-refused w.opening w.position.tables m h rest

    module _ (p : decided w.opening w.position.tables m 0 ≡ 0) where
      -- questions 17 and 18
      pub answer-rest : answer w f room ≡ rest
      answer-rest = answer-some ∙ decided_passed w.opening w.position.tables m p rest

      late : (n : ℕ) → 2 ≤ n → n ≤ 16 → n ≢ rest
      unfolding ask
      late n i j = cases (question17 w m.body)
          (λ a. cases (question18 w m.body room)
          (λ b e. let z : n ≡ 0 = rw (a, b) at e in omega arith) (λ b e. let z : n ≡ 18 = rw (a, b) at e in omega arith))
          (λ a e. let z : n ≡ 17 = rw a at e in omega arith)

      -- the message is ready to be told
      pub passed_ready : Ready w.opening w.position.tables m.body
      passed_ready =
          let b = behind w f room rest late answer-rest in
          let e : Some b.message ≡ Some m = sym b.is ∙ u in
          let z : b.message ≡ m = cc in
          subst (λ (x : Message). Ready w.opening w.position.tables x.body) z b.ready

-- ---- messages 1 to 7

other_fits : (w : World) (b : Body) (room : ℕ) → is_round b ≡ false → question18 w b room ≡ true
unfolding question18
other_fits w b room h = rw (other_written w b h) (le-leb 0 room (omega arith))

moved-posted : (w : World) (b : Body) → is_round b ≡ false → moved_on w b ≡ posted w b
unfolding moved_on posted
moved-posted w b h = rw (other_sent w b h)

pub replied_applied : (w after : World) → Whole w → (f : Fields) (r : Result ℕ Refusal) (lent : List ℤ) (m : Message)
    → understood w.opening.suppliers f ≡ Some m → decided w.opening w.position.tables m 0 ≡ 0
    → is_round m.body ≡ false → (n : ℕ) → Applied w after m.body n → number_of r ≡ n → count_of r ≡ 0 → Replied w after f r lent lent
unfolding ask
replied_applied w after c f r lent m u p o n g a k =
    let b = m.body in
    let e : answer w f (room_in lent) ≡ ask (question17 w b) 17 0 =
    answer-rest w c f (room_in lent) m u p ∙ rw (other_fits w b (room_in lent) o) in
    cases (question17 w b)
    (λ t. replied_accepted w after f r lent lent m u (e ∙ rw t) (a ∙ g.number_is ∙ rw t) (g.world ∙ rw t (moved-posted w b o))
    (rw (other_written w b o) (numbers_none lent)) (rw (other_written w b o) k))
    (λ t. replied_refused w after f r lent lent 17 (e ∙ rw t) (λ y. omega arith) (a ∙ g.number_is ∙ rw t) (g.world ∙ rw t) refl k)

-- messages 1 to 5 are no round
pub row_no_round : (b : Body) → writes_row b ≡ true → is_round b ≡ false
unfolding writes_row is_round
row_no_round (Link p e d q) h = refl
row_no_round (Stop p e d) h = refl
row_no_round (Quantity p e d q) h = refl
row_no_round (Holder p d v) h = refl
row_no_round (State p d v) h = refl
row_no_round (Reading p d k n) h = refl
row_no_round (Block p v) h = refl
row_no_round Round h = absurd (false≢true h)

-- nor is what the code has told from a round
pub no_round : (b : Body) → (b ≡ Round → ⊥) → is_round b ≡ false
unfolding is_round
no_round (Link p e d q) h = refl
no_round (Stop p e d) h = refl
no_round (Quantity p e d q) h = refl
no_round (Holder p d v) h = refl
no_round (State p d v) h = refl
no_round (Reading p d k n) h = refl
no_round (Block p v) h = refl
no_round Round h = absurd (h refl)

-- ---- messages that change no fact: question 17 passes, since tables and lines fit as before

module _ (w : World) (c : Whole w) (b : Body)
    (same : facts_of w.opening (told w.opening w.position.tables b) ≡ facts_of w.opening w.position.tables)
    (rows : rows_fit (told w.opening w.position.tables b) ≡ rows_fit w.position.tables) where
  lines-still : lines_after w b ≡ w.position.lines
  unfolding lines_after tables_after
  lines-still = moved_none w c (told w.opening w.position.tables b) same

  still-fits : question17 w b ≡ true
  unfolding question17 tables_after question2
  still-fits = rw (rows, (both (within_limits w.opening) (rows_fit w.position.tables) c.limited).1, lines-still) (formed w c).lines

-- message 7
pub block_applied : (w : World) → Whole w → (p v : ℕ) (after : World) → after ≡ recorded_in w (Block p v) → Applied w after (Block p v) 0
unfolding ask moved_on tables_after
block_applied w c p v after e =
    let o = w.opening in
    let t = w.position.tables in
    let same : facts_of o (told o t (Block p v)) ≡ facts_of o t =
    unfold told with_blocks facts_of holder_on state_on energy_of in refl in
    let rows : rows_fit (told o t (Block p v)) ≡ rows_fit t = unfold told with_blocks rows_fit in refl in
    let h = still-fits w c (Block p v) same rows in
    record { number_is = rw h; world = e ∙ rw (h, lines-still w c (Block p v) same rows) }

-- ---- message 8

module _ (w : World) (c : Whole w) where
  round-fits : question17 w Round ≡ true
  round-fits = still-fits w c Round (unfold told in refl) (unfold told in refl)

  round-posted : sent_on w ≡ posted w Round
  unfolding posted tables_after told
  round-posted = rw (lines-still w c Round (unfold told in refl) (unfold told in refl))

  pub replied_sent : (after : World) (f : Fields) (r : Result ℕ Refusal) (lent out : List ℤ) (m : Message)
      → understood w.opening.suppliers f ≡ Some m → decided w.opening w.position.tables m 0 ≡ 0 → m.body ≡ Round
      → Sending w after r lent out → Replied w after f r lent out
  unfolding ask
  replied_sent after f r lent out m u p d g =
      let e : answer w f (room_in lent) ≡ ask (question18 w Round (room_in lent)) 18 0 =
      answer-rest w c f (room_in lent) m u p ∙ rw (d, round-fits) in
      cases (question18 w Round (room_in lent))
      (λ t.
      let v : after ≡ sent_on w = g.world ∙ rw t in
      let l : out ≡ numbers_after (records w) lent = g.list ∙ rw t in
      let n : count_of r ≡ length (records w) = g.count ∙ rw t in
      replied_accepted w after f r lent out m u (e ∙ rw t) (g.number_is ∙ rw t) (v ∙ round-posted ∙ rw d)
      (rw (d, round-written w) l) (rw (d, round-written w) n))
      (λ t.
      let v : after ≡ w = g.world ∙ rw t in
      let l : out ≡ lent = g.list ∙ rw t (sym (numbers_none lent)) in
      let n : count_of r ≡ 0 = g.count ∙ rw t in
      replied_refused w after f r lent out 18 (e ∙ rw t) (λ y. omega arith) (g.number_is ∙ rw t) v l n)

-- what the code's count says: question 18, and then the records
module _ (b : Book) (o : Lists) (lent : List ℤ) (n : ℕ) (e : n ≡ moved_count o.lines o.sent (lines_in b)) where
  abbrev money : World
  money = world_in b o

  room-is : question18 money Round (room_in lent) ≡ leb n (room_in lent)
  unfolding question18
  room-is = ap (λ (x : ℕ). leb x (room_in lent))
      (ap length (round-written money ∙ round-records b o.lines o.sent o) ∙ count-is b o.lines o.sent (lines_in b) ∙ sym e)

  pub sent-records : n ≤ room_in lent → (round : ℕ) → round ≡ min last_round (b.round + 1) → (totals out : List ℤ) → totals ≡ o.lines
      → out ≡ numbers_after (line_records b o.lines o.sent (lines_in b)) lent
      → Sending money (world_in (record b { round = round }) (lend_money o.lines totals o)) (Result.Ok n) lent out
  unfolding ask sent_after is_round
  sent-records h round k totals out s l =
      let q = room-is ∙ le-leb n (room_in lent) h in
      record {
        number_is = rw q;
        world = rw (q, k, s);
        list = rw (q, round-records b o.lines o.sent o) l;
        count = rw (q, round-records b o.lines o.sent o, count-is b o.lines o.sent (lines_in b)) e;
      }

  pub sent-nothing : room_in lent < n → (r : Result ℕ Refusal) → number_of r ≡ 18 → count_of r ≡ 0 → Sending money money r lent lent
  unfolding ask
  sent-nothing h r a c =
      let q = room-is ∙ lt-leb n (room_in lent) h in
      record { number_is = rw q a; world = rw q; list = rw q (numbers_none lent); count = rw q c }

-- ---- a well-formed book stays so

step-whole : (w : World) (f : Fields) (room : ℕ) → Whole w → Whole (step w f room)
unfolding step step_by
step-whole w f room c = by (accepted w f room) refl
  where
    by : (x : Option Body) → accepted w f room ≡ x → Whole (step_by w x)
    by None e = c
    by (Some b) e = let k = taken w f room b e in posted-whole w b c k.ready k.fits

pub replied_whole : {w after : World} {f : Fields} {r : Result ℕ Refusal} {lent out : List ℤ} → Whole w → Replied w after f r lent out
    → Whole after
replied_whole {w = w} {f = f} {lent = lent} c g = rw g.world (step-whole w f (room_in lent) c)

-- ---- the exits of `?`

-- a message that is not understood is out of range
pub out_of_range : {o : Option Message} {r : Result Message Refusal} {x : Refusal} → o ≡ None → r ≡ ok_or o OutOfRange → r ≡ Result.Err x
    → x ≡ OutOfRange
out_of_range {r = r} n e h = let e' : r ≡ Result.Err OutOfRange = rw n at e in cc

-- a refusal is passed on as it came
pub refused_as : (r : Result ℕ Refusal) (x : Refusal) → IsErrAnd r (λ y. y ≡ x) → r ≡ Result.Err x
refused_as r x e = let p = err_from_is_err_and r e in rw (p.1, p.2)

-- ---- what is lent of an open book

pub lent_is : (l : Lent) (b : OpenBook) → l.book ≡ b.book → lists_of l ≡ open_lists b → lent_world l ≡ open_world b
lent_is l b e h = ap₂ world_in e h
