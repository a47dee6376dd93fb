-- One message more: the rules' run goes on by one event, the records by those of the message, the answers by its answer. A message never
-- writes more records than it has room for, so the places left are those at the start less the records so far.
use Prim.Native.Nat.{ℕ, suc, ◌+◌, ◌-◌, ◌*◌, ◌/◌, ◌≤◌, ◌<◌}
use mathlib.Core.Path.{◌≡◌, refl, sym, ap, ap₂, subst, ◌∙◌}
use mathlib.Core.List.{List, [], ◌∷◌, ◌++◌, append_assoc}
use lib.IntN.{ℤ}
use lib.ListN.{length, take, drop, set, replicate, length-append, length-drop, length-replicate, take-append-drop}
use lib.Seq.{drop-cons, drop-drop, take_at, drop_at, set_at}
use native.Mathlib.Omega.{arith}
use native.Mathlib.Numerals.{add-one}
use Rattle.std.specs.Prelude.{Result}
use Rattle.rules.specs.declared.Fields.{Fields}
use Rattle.rules.specs.declared.Refusal.{Refusal}
use Rattle.rules.specs.declared.Record.{Record}
use Rattle.rules.specs.Answers.{number_of}
use Rattle.rules.specs.Basics.{list_to}
use Rattle.rules.specs.Sizes.{record_size}
use Rattle.rules.specs.World.{World}
use Rattle.rules.specs.Effects.{no_record, answer, step, records_of}
use Rattle.rules.specs.Claim.{Event, History, advance, advance_all, begin}
use Rattle.rules.proofs.Passed.{records_fit}
use Rattle.rules.proofs.Demand3.{advance_snoc}
use Rattle.rules.proofs.Ranges.{length-list_to}
use Rattle.ledger.specs.RecordNumbers.{numbers_of, numbers_after, record_numbers, record_at}
use Rattle.ledger.proofs.RecordNumbers.{length-numbers, length-after, numbers_none, records-read}
use Rattle.settlement.specs.Replies.{room_in, count_of, Replied}
use Rattle.history.specs.Runs.{fields_at, messages_of, lent_with, events_from, run_from, answers_to, Followed}

-- ---- a lent list counts by its length

any-long : (room : ℕ) → length (replicate room no_record) ≡ room
any-long room = length-replicate room no_record

module _ (h : History) (f : Fields) (room : ℕ) where
  advance-world : (advance h (lent_with f room)).world ≡ step h.world f room
  unfolding advance lent_with
  advance-world = rw (any-long room)

  advance-records : (advance h (lent_with f room)).records ≡ h.records ++ records_of h.world f room
  unfolding advance lent_with
  advance-records = rw (any-long room)

-- ---- the places that the records of a list of messages have left

unfoldable pub places_left : World → List Fields → ℕ → ℕ
places_left w [] room = room
places_left w (f ∷ fs) room = places_left (step w f room) fs (room - length (records_of w f room))

left_is : (h : History) (fs : List Fields) (room : ℕ)
    → length h.records + room ≡ length (advance_all h (events_from h.world fs room)).records + places_left h.world fs room
unfolding places_left advance_all events_from
left_is h [] room = refl
left_is h (f ∷ fs) room =
    let n = length (records_of h.world f room) in
    let e = left_is (advance h (lent_with f room)) fs (room - n) in
    let k = records_fit h.world f room in
    let l : length (advance h (lent_with f room)).records ≡ length h.records + n = ap length (advance-records h f room)
    ∙ length-append h.records _ in
    let s : length h.records + room ≡ length (advance h (lent_with f room)).records + (room - n) = omega arith in
    s ∙ subst (λ (w : World). length (advance h (lent_with f room)).records + (room - n)
    ≡ length (advance_all (advance h (lent_with f room)) (events_from w fs (room - n))).records + places_left w fs (room - n))
    (advance-world h f room) e

-- ---- more messages behind a list: events and answers go on, from the world that the list has left

unfoldable pub world_left : World → List Fields → ℕ → World
world_left w [] room = w
world_left w (f ∷ fs) room = world_left (step w f room) fs (room - length (records_of w f room))

pub events_append : (w : World) (fs gs : List Fields) (room : ℕ)
    → events_from w (fs ++ gs) room ≡ events_from w fs room ++ events_from (world_left w fs room) gs (places_left w fs room)
unfolding events_from places_left world_left
events_append w [] gs room = refl
events_append w (f ∷ fs) gs room = ap (λ (vs : List Event). lent_with f room ∷ vs) (events_append (step w f room) fs gs _)

pub answers-append : (h : History) (us vs : List Event)
    → answers_to h.world (us ++ vs) ≡ answers_to h.world us ++ answers_to (advance_all h us).world vs
unfolding answers_to advance_all advance
answers-append h [] vs = refl
answers-append h (u ∷ us) vs =
    ap (λ (l : List ℕ). answer h.world u.fields (length u.lent) ∷ l) (answers-append (advance h u) us vs)

-- ---- one event more

pub events_more : (w : World) (fs : List Fields) (f : Fields) (room : ℕ)
    → events_from w (fs ++ (f ∷ [])) room ≡ events_from w fs room ++ (lent_with f (places_left w fs room) ∷ [])
unfolding events_from
events_more w fs f room = events_append w fs (f ∷ []) room

pub answers_more : (h : History) (vs : List Event) (v : Event)
    → answers_to h.world (vs ++ (v ∷ [])) ≡ answers_to h.world vs ++
    (answer (advance_all h vs).world v.fields (length v.lent) ∷ [])
unfolding answers_to
answers_more h vs v = answers-append h vs (v ∷ [])

pub length-answers : (w : World) (fs : List Fields) (room : ℕ) (u : World) → length (answers_to u (events_from w fs room)) ≡ length fs
unfolding answers_to events_from
length-answers w [] room u = refl
length-answers w (f ∷ fs) room u = ap suc (length-answers (step w f room) fs _ _)

-- ---- records as numbers, one list behind the other

numbers-append : (rs ss : List Record) → numbers_of (rs ++ ss) ≡ numbers_of rs ++ numbers_of ss
unfolding numbers_of
numbers-append [] ss = refl
numbers-append (r ∷ rs) ss = ap (λ (l : List ℤ). record_numbers r ++ l) (numbers-append rs ss)
    ∙ sym (append_assoc (record_numbers r) (numbers_of rs) (numbers_of ss))

module _ (rs ss : List Record) (lent : List ℤ) (n : ℕ) (e : n ≡ length rs) where
  front : take (n * record_size) (numbers_after rs lent) ≡ numbers_of rs
  unfolding numbers_after
  front = take_at (numbers_of rs) _ (n * record_size) (length-numbers rs ∙ ap (λ k. k * record_size) (sym e))

  behind_them : drop (n * record_size) (numbers_after rs lent) ≡ drop (n * record_size) lent
  unfolding numbers_after
  behind_them = drop_at (numbers_of rs) _ (n * record_size) (length-numbers rs ∙ ap (λ k. k * record_size) (sym e)) ∙ rw e

  numbers-behind : numbers_of rs ++ numbers_after ss (drop (n * record_size) lent) ≡ numbers_after (rs ++ ss) lent
  unfolding numbers_after
  numbers-behind =
      let k : n * record_size + length ss * record_size ≡ length (rs ++ ss) * record_size = rw (length-append rs ss) (omega arith) in
      rw (numbers-append rs ss, append_assoc (numbers_of rs) (numbers_of ss), drop-drop (length ss * record_size) (n * record_size) lent, k)

-- records that stand at the front of a longer list are read there as they are
front_same : (rs ss : List Record) (lent : List ℤ) → numbers_after rs (numbers_after (rs ++ ss) lent) ≡ numbers_after (rs ++ ss) lent
unfolding numbers_after
front_same rs ss lent = rw (
  numbers-append rs ss,
  append_assoc (numbers_of rs) (numbers_of ss),
  drop_at (numbers_of rs) _ (length rs * record_size) (length-numbers rs),
)

pub front_read : (rs ss : List Record) (lent : List ℤ) → list_to (record_at (numbers_after (rs ++ ss) lent)) (length rs) ≡ rs
front_read rs ss lent = rw (front_same rs ss lent) at (records-read rs (numbers_after (rs ++ ss) lent))

-- ---- one store behind the answers

answer_put : (given table : List ℕ) (n a : ℕ) → length given ≡ n → n < length table
    → set (given ++ drop n table) n a ≡ (given ++ (a ∷ [])) ++ drop (n + 1) table
answer_put given table n a e h = rw (drop-cons table n 0 h, set_at given _ (drop (suc n) table) a n e, add-one n, append_assoc)

-- ---- the promise: before the first message, and after one more

pub followed_none : (w : World) (inputs : List ℕ) (lent : List ℤ) (table : List ℕ)
    → Followed w w (messages_of inputs 0) 0 lent lent table table
unfolding messages_of list_to events_from advance_all begin answers_to
followed_none w inputs lent table = record { world = refl; list = numbers_none lent; count-is = refl; answers = refl }

module _ (w mid : World) (fs : List Fields) (count : ℕ) (lent list : List ℤ) (table answered : List ℕ)
    (g : Followed w mid fs count lent list table answered) where
  -- records and places left are the places lent
  left_here : room_in lent ≡ count + places_left w fs (room_in lent)
  unfolding begin
  left_here = let e = left_is (begin w) fs (room_in lent) in let n = g.count-is in omega arith

  pub count_fits : count ≤ length lent / record_size
  count_fits = let e = left_here in omega arith

  pub list-long : length list ≡ length lent
  list-long =
      let k = count_fits in
      let e = g.count-is in
      ap length g.list ∙ length-after (run_from w fs (room_in lent)).records lent (omega arith)

  pub answered-long : length fs ≤ length table → length answered ≡ length table
  answered-long h = ap length g.answers ∙ length-append (answers_to w (events_from w fs (room_in lent))) _
      ∙ rw (length-answers w fs (room_in lent) w, length-drop) (omega arith)

  room-left : room_in (drop (count * record_size) list) ≡ places_left w fs (room_in lent)
  room-left =
      let l = list-long in
      let e = left_here in
      let d = length-drop (count * record_size) list in
      omega arith

  module _ (after : World) (f : Fields) (r : Result ℕ Refusal) (out : List ℤ)
      (q : Replied mid after f r (drop (count * record_size) list) (drop (count * record_size) out)) where
    -- the records of one message more fit too
    pub next_fits : count + count_of r ≤ length lent / record_size
    next_fits =
        let k = records_fit mid f (room_in (drop (count * record_size) list)) in
        let n = q.count in
        let e = left_here in
        let l = room-left in
        omega arith

    abbrev h : History
    h = run_from w fs (room_in lent)

    abbrev room : ℕ
    room = places_left w fs (room_in lent)

    run_more : run_from w (fs ++ (f ∷ [])) (room_in lent) ≡ advance h (lent_with f room)
    run_more = ap (advance_all (begin w)) (events_more w fs f (room_in lent))
        ∙ advance_snoc (begin w) (events_from w fs (room_in lent)) (lent_with f room)

    world_more : after ≡ (run_from w (fs ++ (f ∷ [])) (room_in lent)).world
    world_more = q.world ∙ rw (room-left, g.world) (sym (ap (λ x. x.world) run_more ∙ advance-world h f room))

    written_more : h.records ++ records_of mid f (room_in (drop (count * record_size) list)) ≡ (run_from w (fs ++ (f ∷ []))
        (room_in lent)).records
    written_more = rw (room-left, g.world) (sym (ap (λ x. x.records) run_more ∙ advance-records h f room))

    list_more : take (count * record_size) out ≡ take (count * record_size) list
        → out ≡ numbers_after (run_from w (fs ++ (f ∷ [])) (room_in lent)).records lent
    list_more p =
        let rs = h.records in
        let ss = records_of mid f (room_in (drop (count * record_size) list)) in
        sym (take-append-drop (count * record_size) out)
        ∙ ap₂ (λ (a b : List ℤ). a ++ b) (p ∙ ap (take (count * record_size)) g.list ∙ front rs ss lent count g.count-is)
        (q.list ∙ ap (numbers_after ss) (ap (drop (count * record_size)) g.list ∙ behind_them rs ss lent count g.count-is))
        ∙ numbers-behind rs ss lent count g.count-is ∙ ap (λ x. numbers_after x lent) written_more

    count_more : count + count_of r ≡ length (run_from w (fs ++ (f ∷ [])) (room_in lent)).records
    count_more = ap₂ (λ (a b : ℕ). a + b) g.count-is q.count ∙ sym (length-append h.records _) ∙ ap length written_more

    answer-is : number_of r ≡ answer h.world f (length (replicate room no_record))
    answer-is = q.number ∙ rw (room-left, g.world, any-long room)

    answers-after : length fs < length table
        → set answered (length fs) (number_of r) ≡ answers_to w (events_from w (fs ++ (f ∷ [])) (room_in lent)) ++ drop
        (length (fs ++ (f ∷ []))) table
    unfolding lent_with begin
    answers-after l =
        let n = length-append fs (f ∷ []) in
        rw (
          g.answers,
          answer-is,
          n,
          events_more w fs f (room_in lent),
          answers_more (begin w) (events_from w fs (room_in lent)) (lent_with f room),
        )
        (answer_put (answers_to w (events_from w fs (room_in lent))) table (length fs) _ (length-answers w fs (room_in lent) w) l)

    pub followed_more : take (count * record_size) out ≡ take (count * record_size) list → (given : List ℕ)
        → given ≡ set answered (length fs) (number_of r) → length fs < length table
        → Followed w after (fs ++ (f ∷ [])) (count + count_of r) lent out table given
    followed_more p given s l =
        record {
          world = world_more;
          list = list_more p;
          count-is = count_more;
          answers = s ∙ answers-after l;
        }

-- ---- messages by place

length-messages : (inputs : List ℕ) (i : ℕ) → length (messages_of inputs i) ≡ i
unfolding messages_of
length-messages inputs i = length-list_to (fields_at inputs) i

messages_more : (inputs : List ℕ) (i : ℕ) → messages_of inputs (i + 1) ≡ messages_of inputs i ++ (fields_at inputs i ∷ [])
unfolding messages_of list_to
messages_more inputs i = rw (add-one i)

module _ (w mid : World) (inputs : List ℕ) (i count : ℕ) (lent list : List ℤ) (table answered : List ℕ)
    (g : Followed w mid (messages_of inputs i) count lent list table answered) where
  pub answered-same : i ≤ length table → length answered ≡ length table
  answered-same l = answered-long w mid (messages_of inputs i) count lent list table answered g (rw (length-messages inputs i) l)

  -- one turn of the loop
  pub followed_turn : (after : World) (f : Fields) (r : Result ℕ Refusal) (out : List ℤ) (n : ℕ) → i < length table → f ≡ fields_at inputs i
      → Replied mid after f r (drop (count * record_size) list) (drop (count * record_size) out)
      → take (count * record_size) out ≡ take (count * record_size) list → n ≡ number_of r
      → Followed w after (messages_of inputs (i + 1)) (count + count_of r) lent out table (set answered i n)
  followed_turn after f r out n l e q p a =
      let k = length-messages inputs i in
      rw (messages_more inputs i, ← e)
      (followed_more w mid (messages_of inputs i) count lent list table answered g after f r out q p (set answered i n) (rw (k, a))
      (rw k l))
