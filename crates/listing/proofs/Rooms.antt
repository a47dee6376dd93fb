-- A round has at most as many records as a book has lines: where a list has room for more, answer, step and records are those of a list
-- with room for as many. And from records as numbers to the list.
use Prim.Native.Nat.{ℕ, zero, suc, ◌*◌, ◌≤◌, min}
use native.Mathlib.Omega.{arith}
use mathlib.Core.Path.{◌≡◌, refl, sym, ap, ap₂, subst, ◌∙◌}
use mathlib.Core.List.{List, ◌++◌, append_assoc}
use Rattle.std.specs.Prelude.{Option, None, Some, Result}
use lib.IntN.{ℤ}
use lib.ListN.{length, take, drop, length-append, take-append-drop}
use lib.Seq.{length-take-le, drop-append-le}
use lib.Dec.{leb, eqb}
use borrow.Author.Tests.{eqb-true, leb-true, leb-false, le-leb, lt-leb}
use Rattle.rules.specs.declared.Body.{Body}
use Rattle.rules.specs.declared.Fields.{Fields}
use Rattle.rules.specs.declared.Message.{Message}
use Rattle.rules.specs.declared.Record.{Record}
use Rattle.rules.specs.declared.Refusal.{Refusal}
use Rattle.rules.specs.Basics.{list_to}
use Rattle.rules.specs.Sizes.{most_lines, record_size}
use Rattle.rules.specs.World.{World, line_count}
use Rattle.rules.specs.Messages.{understood}
use Rattle.rules.specs.Effects.{is_round, record_for, records_to, records, written, supplier_of, element_of, unmoved, question18, answer_to}
use Rattle.rules.specs.Effects.{ask_book, answer, accepted, step, records_of, list_after}
use Rattle.rules.specs.Whole.{Whole}
use Rattle.rules.proofs.Tests.{cases, eqb_ne}
use Rattle.rules.proofs.Parts.{few-lines, lengths}
use Rattle.rules.proofs.BookLaws.{book-refused, book-whole}
use Rattle.ledger.specs.RecordNumbers.{numbers_of, numbers_after, record_at, RecordPlaces}
use Rattle.ledger.proofs.RecordNumbers.{length-numbers, records-read, records-placed}
use Rattle.settlement.specs.Replies.{room_in, count_of, Replied}
use Rattle.listing.specs.Listed.{Listed, Numbered}

-- ---- a round has few records

one_record : (w : World) (s e : ℕ) → length (record_for w s e) ≤ 1
unfolding record_for
one_record w s e = cases (unmoved w s e) (λ t. rw t (omega arith)) (λ t. rw t (omega arith))

records-to : (w : World) (n : ℕ) → length (records_to w n) ≤ n
unfolding records_to
records-to w zero = omega arith
records-to w (suc k) =
    let l = length-append (records_to w k) (record_for w (supplier_of w.opening k) (element_of w.opening k)) in
    let h = one_record w (supplier_of w.opening k) (element_of w.opening k) in
    let i = records-to w k in
    omega arith

written-few : (w : World) (b : Body) → Whole w → length (written w b) ≤ most_lines
unfolding written records line_count
written-few w b c =
    let n = (lengths w c).limited in
    let h = few-lines w.opening.suppliers w.opening.elements n.suppliers n.elements in
    let r = records-to w (w.opening.suppliers * w.opening.elements) in
    cases (is_round b) (λ t. rw t (omega arith)) (λ t. rw t (omega arith))

-- ---- so the room for more changes nothing

same_test : (n room : ℕ) → n ≤ most_lines → leb n (min room most_lines) ≡ leb n room
same_test n room h = cases (leb n room)
    (λ t. let l = leb-true n room t in rw t (le-leb n (min room most_lines) (omega arith)))
    (λ t. let l = leb-false n room t in rw t (lt-leb n (min room most_lines) (omega arith)))

module _ (w : World) (f : Fields) (room : ℕ) where
  same-answer_to : Whole w → (m : Option Message) → answer_to w m (min room most_lines) ≡ answer_to w m room
  unfolding answer_to question18
  same-answer_to c None = refl
  same-answer_to c (Some m) = rw (same_test (length (written w m.body)) room (written-few w m.body c))

  same_answer : answer w f (min room most_lines) ≡ answer w f room
  unfolding answer
  same_answer = cases (eqb (ask_book w 0) 0)
      (λ t. let c = (book-whole w 0 (eqb-true _ 0 t)).0 in ap (ask_book w) (same-answer_to c (understood w.opening.suppliers f)))
      (λ t. let n = eqb_ne _ 0 t in book-refused w n _ ∙ sym (book-refused w n _))

  same-accepted : accepted w f (min room most_lines) ≡ accepted w f room
  unfolding accepted
  same-accepted = rw same_answer

  same_step : step w f (min room most_lines) ≡ step w f room
  unfolding step
  same_step = rw same-accepted

  same-records : records_of w f (min room most_lines) ≡ records_of w f room
  unfolding records_of
  same-records = rw same-accepted

-- ---- records that stand as numbers at the front of a part stand at the front of the whole

front-numbers : (rs : List Record) (end : ℕ) (numbers : List ℤ) → end ≤ length numbers → length rs * record_size ≤ end
    → numbers_after rs (take end numbers) ++ drop end numbers ≡ numbers_after rs numbers
unfolding numbers_after
front-numbers rs end numbers h k =
    let n = length rs * record_size in
    let l = length-take-le end numbers h in
    append_assoc (numbers_of rs) (drop n (take end numbers)) (drop end numbers)
    ∙ ap (λ (x : List ℤ). numbers_of rs ++ x)
    (sym (drop-append-le n (take end numbers) (drop end numbers) (omega arith)) ∙ ap (drop n) (take-append-drop end numbers))

long-numbers : (rs : List Record) (lent : List ℤ) → length rs * record_size ≤ length (numbers_after rs lent)
unfolding numbers_after
long-numbers rs lent =
    let a = length-append (numbers_of rs) (drop (length rs * record_size) lent) in
    let b = length-numbers rs in
    omega arith

-- a reply with the front of a list of numbers
pub numbered : (w after : World) (f : Fields) (r : Result ℕ Refusal) (room end : ℕ) (numbers out : List ℤ)
    → end ≡ min room most_lines * record_size
    → length numbers ≡ most_lines * record_size → length out ≡ length (take end numbers)
    → Replied w after f r (take end numbers) out → Numbered w after f r room (out ++ drop end numbers)
numbered w after f r room end numbers out e long kept p =
    let l = length-take-le end numbers (omega arith) in
    let fits : room_in (take end numbers) ≡ min room most_lines = omega arith in
    let rs = records_of w f room in
    let same : records_of w f (room_in (take end numbers)) ≡ rs = ap (records_of w f) fits ∙ same-records w f room in
    let here : out ≡ numbers_after rs (take end numbers) = p.list ∙ ap (λ (x : List Record). numbers_after x (take end numbers)) same in
    let few : length rs * record_size ≤ end = let a = long-numbers rs (take end numbers) in let b = ap length here in omega arith in
    let all : out ++ drop end numbers ≡ numbers_after rs numbers =
    ap (λ (x : List ℤ). x ++ drop end numbers) here ∙ front-numbers rs end numbers (omega arith) few in
    let count : count_of r ≡ length rs = p.count ∙ ap length same in
    record {
      number = p.number ∙ ap (answer w f) fits ∙ same_answer w f room;
      world = p.world ∙ ap (step w f) fits ∙ same_step w f room;
      count = count;
      few = omega arith;
      placed = λ i h. subst (λ (x : List ℤ). RecordPlaces x i) (sym all) (records-placed rs numbers i (omega arith));
      read = ap₂ (λ (x : List ℤ) (n : ℕ). list_to (record_at x) n) all count ∙ records-read rs numbers;
    }

-- ---- and the list that is written from them is the rules'

pub listed : (w after : World) (f : Fields) (r : Result ℕ Refusal) (lent out : List Record) (numbers : List ℤ)
    → Numbered w after f r (length lent) numbers → out ≡ list_to (record_at numbers) (count_of r) ++ drop (count_of r) lent
    → Listed w after f r lent out
listed w after f r lent out numbers p e =
    record {
      number = p.number;
      world = p.world;
      list = unfold list_after in e ∙ ap₂ (λ (x : List Record) (n : ℕ). x ++ drop n lent) p.read p.count;
      count = p.count;
    }

-- where a message is refused, nothing is written
pub listed_none : (w after : World) (f : Fields) (r : Result ℕ Refusal) (lent : List Record) (numbers : List ℤ)
    → Numbered w after f r (length lent) numbers → count_of r ≡ 0 → Listed w after f r lent lent
listed_none w after f r lent numbers p e = listed w after f r lent lent numbers p (rw e (unfold list_to in refl))
