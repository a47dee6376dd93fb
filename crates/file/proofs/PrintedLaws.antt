-- What `settle` prints is demand 3's run over the file's messages. `settled` walks the fields as `contents_of` does, so its text is that of
-- the lines; a message's lines hold its records, and the worlds go on by the same steps.
use Prim.Native.Nat.{ℕ, zero, suc, ◌+◌, ◌<◌, ◌≤◌}
use mathlib.Core.Path.{◌≡◌, refl, sym, ap, ap₂, ◌∙◌}
use mathlib.Core.Bool.{false}
use mathlib.Core.List.{List, [], ◌∷◌, ◌++◌, flat_map, append-nil, append_assoc}
use Rattle.std.specs.Prelude.{Option, Some}
use lib.ListN.{length, take, drop, length-replicate, length-append}
use lib.Dec.{leb, eqb}
use native.Mathlib.Omega.{arith}
use Rattle.rules.specs.declared.Fields.{Fields}
use Rattle.rules.specs.declared.Record.{Record}
use Rattle.rules.specs.Lines.{Measure}
use Rattle.rules.specs.World.{Opening, World, InBook}
use Rattle.rules.specs.Opening.{opening_answer, opened}
use Rattle.rules.specs.Effects.{ask, answer, accepted, step, written_by, records_of}
use Rattle.rules.specs.Queries.{line_query, named}
use Rattle.rules.specs.Claim.{Event, History, advance, advance_all, begin, Split, up_to, total}
use Rattle.rules.proofs.Tests.{cases}
use Rattle.rules.proofs.Demand3.{demand3, records_from, records-behind}
use Rattle.file.specs.declared.fields.Phase.{Phase}
use Rattle.file.specs.declared.fields.Found.{Found}
use Rattle.file.specs.declared.fields.Found.TheVariants.{Month, Element, Message, End, More, Broken}
use Rattle.file.specs.Field.{header_size, month_size, message_size, field_of, field_size, Inside}
use Rattle.file.specs.Lines.{refused_line}
use Rattle.file.specs.Program.{settle_points, settle_records, ended_by, record_lines, answered, on_message, messages_from, Heading}
use Rattle.file.specs.Program.{collected, lent_for, settle_answer, open_then, on_element, elements_from, on_month, settled}
use Rattle.file.specs.Contents.{Messages, no_messages, messages_at, messages_in, Contents, elements_at, elements_in, month_at, contents_of}
use Rattle.file.specs.Printed.{OutputLine, line_text, text_of, records_among, written_all, lines_of, lines_from, end_lines, lines_to}
use Rattle.file.specs.Printed.{output_of, event_of, events_of, reached_by, SettledAs}
use Rattle.file.proofs.FieldLaws.{inside_of}
use Rattle.file.proofs.ProgramLaws.{shorter}

-- ---- the text of lines

text-append : (xs ys : List OutputLine) → text_of (xs ++ ys) ≡ text_of xs ++ text_of ys
unfolding text_of
text-append [] ys = refl
text-append (x ∷ xs) ys =
    ap (λ (t : List ℕ). line_text x ++ t) (text-append xs ys) ∙ sym (append_assoc (line_text x) (text_of xs) (text_of ys))

text-records : (rs : List Record) → text_of (written_all rs) ≡ record_lines rs
unfolding text_of written_all flat_map line_text
text-records [] = refl
text-records (r ∷ rs) = ap (λ (t : List ℕ). line_text (OutputLine.written r) ++ t) (text-records rs)

text-refused : (message question : ℕ) → text_of (OutputLine.refused message question ∷ []) ≡ refused_line message question
unfolding text_of line_text
text-refused message question = append-nil (refused_line message question)

text-answered : (w : World) (f : Fields) (number : ℕ) → text_of (lines_of w f number) ≡ answered w f number
unfolding lines_of answered
text-answered w f number = cases (eqb (answer w f settle_records) 0)
    (λ t. rw t (text-records (records_of w f settle_records)))
    (λ t. rw t (text-refused number (answer w f settle_records)))

text-ended : text_of (OutputLine.refused 0 1 ∷ []) ≡ ended_by 1
unfolding ended_by
text-ended = text-refused 0 1

-- ---- messages

abbrev rest-text : World → Messages → (number : ℕ) → List ℕ
rest-text w ms number = text_of (lines_from w ms.fields number ++ end_lines ms.broken)

on_message_lem : (found : Found) (w : World) (number : ℕ) (more : World → List ℕ) (rest : Messages)
    → ((after : World) → more after ≡ rest-text after rest (suc number))
    → on_message found w number more ≡ rest-text w (messages_at found rest) number
unfolding on_message messages_at lines_from
on_message_lem (Message f) w number more rest h =
    rw (append_assoc (lines_of w f number), text-append (lines_of w f number), text-answered w f number)
    (ap (λ (t : List ℕ). answered w f number ++ t) (h (step w f settle_records)))
on_message_lem End w number more rest h = unfold text_of in refl
on_message_lem (Month year month points suppliers) w number more rest h = sym text-ended
on_message_lem (Element size) w number more rest h = sym text-ended
on_message_lem More w number more rest h = sym text-ended
on_message_lem Broken w number more rest h = sym text-ended

messages-text : (most : ℕ) (bytes : List ℕ) (w : World) (number : ℕ)
    → messages_from most bytes w number ≡ rest-text w (messages_in most bytes) number
unfolding messages_from messages_in
messages-text zero bytes w number = unfold lines_from text_of in refl
messages-text (suc most) bytes w number = on_message_lem (field_of bytes Phase.Messages) w number
    (λ after. messages_from most (drop message_size bytes) after (suc number))
    (messages_in most (drop message_size bytes))
    (λ after. messages-text most (drop message_size bytes) after (suc number))

-- ---- the opening

opens-text : (o : Opening) (ms : Messages) (more : World → List ℕ) → ((w : World) → more w ≡ rest-text w ms 1)
    → open_then o more ≡ text_of (output_of (Some (record { opening = o; messages = ms })))
unfolding open_then output_of ended_by
opens-text o ms more h = cases (eqb (settle_answer o) 0)
    (λ t. rw (t, h (opened (lent_for o))) (unfold text_of line_text in refl))
    (λ t. rw t (sym (text-refused 0 (settle_answer o))))

on_element_lem : (found : Found) (bytes : List ℕ) (h : Heading) (values : List (List ℕ)) (end : ℕ) (more : ℕ → List (List ℕ) → List ℕ)
    (messages : World → List ℕ) (rest : ℕ → List (List ℕ) → Option Contents) (ms : Messages) → Inside 0 end found
    → ((next : ℕ) (read : List (List ℕ)) → 0 < next → next ≤ end → more next read ≡ text_of (output_of (rest next read)))
    → ((w : World) → messages w ≡ rest-text w ms 1)
    → on_element found bytes h values more messages ≡ text_of (output_of (elements_at found bytes h values rest ms))
unfolding on_element elements_at field_size
on_element_lem (Element size) bytes h values end more messages rest ms k same at =
    same (header_size + size) (values ++ (take size (drop header_size bytes) ∷ [])) (omega arith) (omega (arith, k.0))
on_element_lem (Message f) bytes h values end more messages rest ms k same at = opens-text (collected h values) ms messages at
on_element_lem End bytes h values end more messages rest ms k same at =
    opens-text (collected h values) (no_messages false) (λ w. []) (λ w. unfold lines_from text_of in refl)
on_element_lem (Month year month points suppliers) bytes h values end more messages rest ms k same at = unfold output_of in sym text-ended
on_element_lem More bytes h values end more messages rest ms k same at = unfold output_of in sym text-ended
on_element_lem Broken bytes h values end more messages rest ms k same at = unfold output_of in sym text-ended

elements-text : (most : ℕ) (bytes : List ℕ) (h : Heading) (values : List (List ℕ)) → length bytes < most
    → elements_from most bytes h values ≡ text_of (output_of (elements_in most bytes h values))
unfolding elements_from elements_in
elements-text zero bytes h values l = absurd (omega arith)
elements-text (suc most) bytes h values l = on_element_lem (field_of bytes Phase.Elements) bytes h values (length bytes)
    (λ next read. elements_from most (drop next bytes) h read)
    (λ w. messages_from (suc most) bytes w 1)
    (λ next read. elements_in most (drop next bytes) h read)
    (messages_in (suc most) bytes)
    (inside_of bytes Phase.Elements)
    (λ next read a b. elements-text most (drop next bytes) h read (shorter bytes next most l a b))
    (λ w. messages-text (suc most) bytes w 1)

on_month_lem : (found : Found) (end : ℕ) (more : Heading → List ℕ) (rest : Heading → Option Contents) → Inside 0 end found
    → ((h : Heading) → month_size ≤ end → more h ≡ text_of (output_of (rest h)))
    → on_month found more ≡ text_of (output_of (month_at found rest))
unfolding on_month month_at field_size
on_month_lem (Month year month points suppliers) end more rest k same = same _ (omega (arith, k.0))
on_month_lem (Element size) end more rest k same = unfold output_of in sym text-ended
on_month_lem (Message f) end more rest k same = unfold output_of in sym text-ended
on_month_lem End end more rest k same = unfold output_of in sym text-ended
on_month_lem More end more rest k same = unfold output_of in sym text-ended
on_month_lem Broken end more rest k same = unfold output_of in sym text-ended

-- for every file, whatever its bytes
pub settled-text : (bytes : List ℕ) → settled bytes ≡ text_of (output_of (contents_of bytes))
unfolding settled contents_of
settled-text bytes = on_month_lem (field_of bytes Phase.Start) (length bytes)
    (λ h. elements_from (length bytes) (drop month_size bytes) h [])
    (λ h. elements_in (length bytes) (drop month_size bytes) h [])
    (inside_of bytes Phase.Start)
    (λ h b.
    elements-text (length bytes) (drop month_size bytes) h [] (shorter bytes month_size (length bytes) (omega arith) (omega arith) b))

-- ---- worlds and records

lent-long : (f : Fields) → length (event_of f).lent ≡ settle_records
unfolding event_of
lent-long f = simp length-replicate

same-fields : (f : Fields) → (event_of f).fields ≡ f
unfolding event_of
same-fields f = refl

advance-world : (h : History) (f : Fields) → (advance h (event_of f)).world ≡ step h.world f settle_records
unfolding advance
advance-world h f = rw (lent-long f, same-fields f)

event_records : (w : World) (f : Fields) → records_of w (event_of f).fields (length (event_of f).lent) ≡ records_of w f settle_records
event_records w f = rw (lent-long f, same-fields f)

among_append : (xs ys : List OutputLine) → records_among (xs ++ ys) ≡ records_among xs ++ records_among ys
unfolding records_among
among_append [] ys = refl
among_append (OutputLine.book o ∷ xs) ys = among_append xs ys
among_append (OutputLine.written r ∷ xs) ys = ap (λ (l : List Record). r ∷ l) (among_append xs ys)
among_append (OutputLine.refused message question ∷ xs) ys = among_append xs ys

among_all : (rs : List Record) → records_among (written_all rs) ≡ rs
unfolding records_among written_all
among_all [] = refl
among_all (r ∷ rs) = ap (λ (l : List Record). r ∷ l) (among_all rs)

-- a refused message writes no record
among_lines : (w : World) (f : Fields) (number : ℕ) → records_among (lines_of w f number) ≡ records_of w f settle_records
unfolding lines_of
among_lines w f number = cases (eqb (answer w f settle_records) 0)
    (λ t. rw t (among_all (records_of w f settle_records)))
    (λ t. unfold records_of accepted written_by records_among in rw t)

among_from : (h : History) (fs : List Fields) (number : ℕ) → records_among (lines_from h.world fs number) ≡ records_from h (events_of fs)
unfolding lines_from events_of records_from
among_from h [] number = unfold records_among in refl
among_from h (f ∷ fs) number = among_append (lines_of h.world f number) _
    ∙ ap₂ (λ (a b : List Record). a ++ b) (among_lines h.world f number ∙ sym (event_records h.world f))
    (ap (λ w. records_among (lines_from w fs (suc number))) (sym (advance-world h f)) ∙ among_from (advance h (event_of f)) fs (suc number))

lines-append : (h : History) (fs gs : List Fields) (number : ℕ)
    → lines_from h.world (fs ++ gs) number
    ≡ lines_from h.world fs number ++ lines_from (advance_all h (events_of fs)).world gs (length fs + number)
unfolding lines_from events_of advance_all
lines-append h [] gs number = let n : number ≡ 0 + number = omega arith in ap (lines_from h.world gs) n
lines-append h (f ∷ fs) gs number =
    let n : length fs + suc number ≡ suc (length fs) + number = omega arith in
    rw (← advance-world h f, lines-append (advance h (event_of f)) fs gs (suc number), n)
    (sym (append_assoc (lines_of h.world f number) _ _))

events_append : (fs gs : List Fields) → events_of (fs ++ gs) ≡ events_of fs ++ events_of gs
unfolding events_of
events_append [] gs = refl
events_append (f ∷ fs) gs = ap (λ (vs : List Event). event_of f ∷ vs) (events_append fs gs)

-- ---- at a message of a file whose opening is accepted

module _ (o : Opening) {fs : List Fields} (x : Split fs) where
  each_line : lines_to o (up_to x) ≡ lines_to o x.before ++ lines_of (reached_by o x.before).world x.message (length x.before + 1)
  unfolding begin lines_from
  each_line = ap (λ (ls : List OutputLine). OutputLine.book o ∷ ls)
      (lines-append (begin (opened (lent_for o))) x.before (x.message ∷ []) 1
      ∙ ap (λ (ls : List OutputLine). lines_from (opened (lent_for o)) x.before 1 ++ ls) (append-nil _))

  split_line : lines_to o fs ≡ lines_to o (up_to x) ++ lines_from (reached_by o (up_to x)).world x.behind (length x.before + 2)
  unfolding begin
  split_line =
      let n : length (up_to x) + 1 ≡ length x.before + 2 = rw (length-append x.before (x.message ∷ [])) (omega arith) in
      rw (x.is, ← append_assoc x.before (x.message ∷ []), ← n)
      (ap (λ (ls : List OutputLine). OutputLine.book o ∷ ls) (lines-append (begin (opened (lent_for o))) (up_to x) x.behind 1))

  records-line : records_among (lines_to o (up_to x)) ≡ (reached_by o (up_to x)).records
  unfolding begin records_among
  records-line =
      among_from (begin (opened (lent_for o))) (up_to x) 1 ∙ sym (records-behind (begin (opened (lent_for o))) (events_of (up_to x)))

  events_split : events_of fs ≡ events_of x.before ++ (event_of x.message ∷ events_of x.behind)
  unfolding events_of
  events_split = ap events_of x.is ∙ events_append x.before (x.message ∷ x.behind)

  abbrev split_events : Split (events_of fs)
  split_events = record {
    before = events_of x.before;
    message = event_of x.message;
    behind = events_of x.behind;
    is = events_split;
  }

  to-here : up_to split_events ≡ events_of (up_to x)
  unfolding events_of
  to-here = sym (events_append x.before (x.message ∷ []))

-- `settle` asks the opening's questions
opening-accepted : (o : Opening) → settle_answer o ≡ 0 → opening_answer (lent_for o) ≡ 0
unfolding settle_answer ask
opening-accepted o h = cases (leb o.points settle_points)
    (λ t. rw t at h)
    (λ t. let z : 2 ≡ 0 = rw t at h in absurd (omega arith))

-- A file whose opening is accepted: what is printed for it has demand 3.
module _ (bytes : List ℕ) (c : Contents) (h : contents_of bytes ≡ Some c) (a : settle_answer c.opening ≡ 0) where
  whole-text : settled bytes ≡ text_of (lines_to c.opening c.messages.fields ++ end_lines c.messages.broken)
  unfolding output_of
  whole-text = settled-text bytes ∙ rw (h, a)

  inside : (s e : ℕ) → InBook c.opening s e → InBook (lent_for c.opening).opening s e
  unfolding lent_for
  inside s e b = b

  -- a message as an event is of its kind, and has its answer
  event_round : (x : Split c.messages.fields) → x.message.kind ≡ 8 → (event_of x.message).fields.kind ≡ 8
  event_round x z = rw (same-fields x.message) z

  event_answer : (x : Split c.messages.fields) → answer (reached_by c.opening x.before).world x.message settle_records ≡ 0
      → answer (reached_by c.opening x.before).world (event_of x.message).fields (length (event_of x.message).lent) ≡ 0
  event_answer x q = rw (lent-long x.message, same-fields x.message) q

  pub settled_as : SettledAs bytes c.opening c.messages.fields c.messages.broken
  settled_as =
      let k = demand3 (lent_for c.opening) (opening-accepted c.opening a) (events_of c.messages.fields) in
      record {
        text = whole-text;
        kept = k;
        each = λ x. each_line c.opening x;
        front = λ x. whole-text ∙ ap (λ ls. text_of (ls ++ end_lines c.messages.broken)) (split_line c.opening x)
            ∙ ap text_of (append_assoc (lines_to c.opening (up_to x)) _ _) ∙ text-append (lines_to c.opening (up_to x)) _;
        records = λ x. records-line c.opening x;
        rounds = λ x z q m s e b.
            ap (total m s e) (records-line c.opening x)
            ∙ rw (to-here c.opening x) at (k.rounds (split_events c.opening x) (event_round x z) (event_answer x q) m s e
            (inside s e b));
        last_balance = λ x s e b.
            let j = demand3 (lent_for c.opening) (opening-accepted c.opening a) (events_of (up_to x)) in
            rw (records-line c.opening x) (j.last_balance s e (inside s e b));
        round_balance = λ x z q s e b.
            rw (records-line c.opening x) (rw (to-here c.opening x) at (k.round_balance (split_events c.opening x)
            (event_round x z) (event_answer x q) s e (inside s e b)));
        each_balance = λ x r m.
            let w = (reached_by c.opening x.before).world in
            let here = rw (among_lines w x.message (length x.before + 1), ← event_records w x.message) at m in
            rw (to-here c.opening x) at (k.each_balance (split_events c.opening x) r here);
      }

  pub printed-records-add-up : (x : Split c.messages.fields) → x.message.kind ≡ 8
      → answer (reached_by c.opening x.before).world x.message settle_records ≡ 0
      → (m : Measure) (s e : ℕ) → InBook c.opening s e
      → total m s e (records_among (lines_to c.opening (up_to x)))
      ≡ named m (line_query (reached_by c.opening (up_to x)).world s e)
  printed-records-add-up = settled_as.rounds
