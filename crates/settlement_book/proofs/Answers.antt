-- The answers of the inner functions, said in numbers.
use Prim.Native.Nat.{ℕ, ◌≤◌}
use native.Mathlib.Omega.{arith}
use mathlib.Core.Path.{◌≡◌, refl, sym, ap, ap₂, subst, ◌∙◌}
use mathlib.Core.Logic.{◌≢◌}
use mathlib.Core.Bool.{true, false, cond}
use mathlib.Core.List.{List}
use Rattle.std.specs.Prelude.{None, Some}
use lib.Dec.{eqb, ltb}
use lib.IntN.{ℤ}
use lib.ListN.{length}
use borrow.Author.Tests.{ne_eqb, eqb-true, lt-ltb}
use Rattle.calendar.specs.Gregorian.{InRange}
use Rattle.rules.specs.Basics.{when, within}
use Rattle.std.specs.Prelude.{Result, Ok, Err}
use Rattle.rules.specs.declared.Refusal.{Refusal}
use Rattle.rules.specs.declared.Line.{Line}
use Rattle.rules.specs.declared.Book.{Book}
use Rattle.rules.specs.declared.Fields.{Fields}
use Rattle.rules.specs.Lines.{Measure, line}
use Rattle.rules.specs.World.{World, book_of, stored, table_of, terms_of, line_count, month_first, month_days}
use Rattle.rules.specs.WellFormed.{within_limits, question2, question3, question4, line_places}
use Rattle.rules.specs.Opening.{opening_answer, opened, after_opening}
use Rattle.rules.specs.Effects.{ask, ask_book, answer, accepted, step_by, step, written_by, records_of}
use Rattle.ledger.proofs.RecordNumbers.{numbers_none}
use Rattle.rules.specs.declared.Lent.{Lent}
use Rattle.rules.specs.declared.OpenBook.{OpenBook}
use Rattle.rules.specs.Lent.{Lists, given, world_in, lists_of, lent_world, open_lists, open_world}
use Rattle.rules.specs.Queries.{LineResult, line_number, line_query, line_named, line_refused, periods_number, day_number}
use Rattle.rules.specs.Queries.{DayResult, day_query, day_result_number}
use Rattle.rules.specs.Packed.{numbers_right, owned_sum, in_ore, packed_size, packed, is_packed, packed_amount}
use Rattle.rules.specs.Packed.{read_packed, sum_number, sum_written}
use Rattle.rules.specs.Fresh.{fresh_facts}
use Rattle.rules.specs.Claim.{Event, reached}
use Rattle.rules.specs.Answers.{refusal_number, number_of, line_result}
use Rattle.rules.proofs.Tests.{cases, both}
use Rattle.rules.specs.Whole.{Whole}
use Rattle.rules.proofs.Stored.{billionths_lt}
use Rattle.rules.proofs.LineQuery.{query_stored}
use Rattle.rules.proofs.DayQuery.{day-number, day-answered, day-below}
use Rattle.rules.proofs.Begin.{passed, begin-whole}
use Rattle.rules.proofs.Parts.{limits, lengths_asked}
use Rattle.rules.proofs.BookLaws.{book-refused, whole-asked}
use Rattle.rules.proofs.Ranges.{within_low, within-high}
use Rattle.rules.proofs.Demand3.{demand3, reached-opening}
use Rattle.recording.specs.Opened.{named_book, fresh_book, cleared}
use Rattle.queries.specs.Promises.{LineAnswered}
use Rattle.queries.proofs.Asks.{refused_not, line_passed}
use Rattle.queries.proofs.Answered.{line_refused_lem, periods-refused}
use Rattle.settlement.specs.Replies.{room_in, count_of, Replied}
use Rattle.settlement_book.specs.Numbers.{book_in, numbers_in, line_numbers, line_after, InKrone, no_day, day_after}
use Rattle.settlement_book.specs.Promises.{OpensIn, RepliesIn, LineIn, PeriodsIn, DayIn, PackedIn, ReadIn}

-- ---- what is lent is left to be found: the same lists with a book known by another name

pub world_as : {a b : Book} {o : Lists} → a ≡ b → world_in a o ≡ world_in b o
world_as {o = o} e = ap (λ (b : Book). world_in b o) e

pub whole_as : {a b : Book} {o : Lists} → a ≡ b → Whole (world_in b o) → Whole (world_in a o)
whole_as {o = o} e h = subst (λ (b : Book). Whole (world_in b o)) (sym e) h

pub asked_as : {a b : Book} (o : Lists) {n : ℕ} → n ≡ ask_book (world_in a o) 0 → a ≡ b → n ≡ ask_book (world_in b o) 0
asked_as o h e = h ∙ ap (λ (b : Book). ask_book (world_in b o) 0) e

-- the lists of a book that was asked
abbrev pub lists_asked : (a : Book) (o : Lists) {n : ℕ} → n ≡ ask_book (world_in a o) 0 → Lists
lists_asked a o h = o

-- a book that is open, as it is lent to be read
pub lent-open : (l : Lent) (b : OpenBook) → l.book ≡ b.book → lists_of l ≡ open_lists b → lent_world l ≡ open_world b
lent-open l b h k = ap₂ world_in h k

-- ---- the line query

module _ (w : World) (s e : ℕ) where
  -- the billionths of a well-formed book's line are less than a krone
  pub line_small : (r : Result Line Refusal) → LineAnswered w s e r → InKrone r
  unfolding line_named
  line_small (Ok l) h =
      let p = line_passed w s e (eqb-true _ _ (sym h.told)) in
      let f : l.billionths ≡ (line_named (stored w.opening w.position.lines Measure.quantity s e)
      (stored w.opening w.position.lines Measure.amount s e)).billionths =
      ap (λ (x : LineResult). x.billionths) (h.stored ∙ query_stored w p.0 s e p.1) in
      rw f (billionths_lt _)
  line_small (Err r) h = omega arith

  refused-number : (r : Refusal) → LineAnswered w s e (Err r) → refusal_number r ≡ line_number w s e
  unfolding line_query line_refused
  refused-number r h =
      let k : line_refused (refusal_number r) ≡ line_refused (line_number w s e) = h.stored ∙ rw (sym h.told) in
      ap (λ (x : LineResult). x.number) k

  -- and it names no line
  names-none : (r : Refusal) → LineAnswered w s e (Err r) → (quantity amount : ℤ)
      → line_result (Err r) ≡ line_named quantity amount → ⊥
  unfolding line_named line_refused
  names-none r h quantity amount i = refused_not r (ap (λ (x : LineResult). x.number) i)

  pub line-in-numbers : (r : Result Line Refusal) → LineAnswered w s e r → (n : ℕ) → n ≡ (line_result r).number → (lent out : List ℤ)
      → out ≡ line_after r lent
      → LineIn w s e n lent out
  unfolding line_numbers line_named line_refused
  line-in-numbers (Ok l) h n i lent out j =
      record {
        number = i ∙ sym (eqb-true _ _ (sym h.told));
        numbers = rw (← h.told, ← h.stored) j;
        sums = λ w₀ vs x y z. j ∙ ap line_numbers (h.sums w₀ vs x y z);
        settled = λ w₀ vs x y z. j ∙ ap line_numbers (h.settled w₀ vs x y z);
      }
  line-in-numbers (Err r) h n i lent out j =
      record {
        number = i ∙ refused-number r h;
        numbers = rw (← h.told) j;
        sums = λ w₀ vs x y z. absurd (names-none r h _ _ (h.sums w₀ vs x y z));
        settled = λ w₀ vs x y z. absurd (names-none r h _ _ (h.settled w₀ vs x y z));
      }

  -- of a book that is not well formed
  pub line-no-book : (r : Refusal) → refusal_number r ≡ ask_book w 0 → (n : ℕ) → n ≡ refusal_number r → (lent : List ℤ)
      → LineIn w s e n lent lent
  unfolding line_number
  line-no-book r h n i lent =
      let k : refusal_number r ≡ line_number w s e = h ∙ sym (book-refused w (λ x. refused_not r (h ∙ x)) _) in
      line-in-numbers (Err r) (line_refused_lem w s e r k) n (unfold line_refused in i) lent lent refl

-- ---- the periods

-- refused, with nothing written but that nothing was read
pub periods-refused_in : (w : World) (p e r : ℕ) → r ≡ periods_number w p e → r ≢ 0 → (p₀ n₀ : ℕ)
    → PeriodsIn w p e r p₀ p₀ n₀ n₀ 0
periods-refused_in w p e r h z p₀ n₀ = record {
  number = h;
  refused = λ _. (refl, refl);
  answered = λ k. absurd (z k);
  read = (periods-refused w p e (λ x. z (h ∙ x))).1;
}

-- of a book that is not well formed
pub periods_no_book : (w : World) (p e r : ℕ) → r ≡ ask_book w 0 → r ≢ 0 → (p₀ n₀ : ℕ) → PeriodsIn w p e r p₀ p₀ n₀ n₀ 0
unfolding periods_number
periods_no_book w p e r h z = periods-refused_in w p e r (h ∙ sym (book-refused w (λ x. z (h ∙ x)) _)) z

-- ---- the earliest day without a holder

pub day_in_numbers : (w : World) (p : ℕ) (a : DayResult) → a ≡ day_query w p → (r lent out : ℕ)
    → r ≡ day_result_number a → out ≡ day_after a lent
    → DayIn w p r lent out
day_in_numbers w p a h r lent out i j =
    record { number = i ∙ ap day_result_number h ∙ day-number w p; day = j ∙ ap (λ (x : DayResult). day_after x lent) h }

-- of a book that is not well formed
pub day_no_book : (w : World) (p r : ℕ) → r ≡ ask_book w 0 → r ≢ 0 → (lent : ℕ) → DayIn w p r lent lent
unfolding day_number day_query
day_no_book w p r h z lent =
    let k : r ≡ day_number w p = h ∙ sym (book-refused w (λ x. z (h ∙ x)) _) in
    record { number = k; day = rw (ne_eqb (day_number w p) 0 (λ x. z (k ∙ x))) }

-- where no question says no, a number below 36,525 is the day that is named, and any other says that there is none
module _ (w : World) (p lent out : ℕ) (h : DayIn w p 0 lent out) where
  read_back : (x : DayResult) → day_query w p ≡ x → day_query w p ≡ DayResult.answered (when (ltb out no_day) out)
  unfolding when
  read_back (DayResult.answered (Some d)) e =
      let o : out ≡ d = h.day ∙ ap (λ (x : DayResult). day_after x lent) e in
      rw (o, lt-ltb d no_day (day-below w p d e)) e
  read_back (DayResult.answered None) e =
      let o : out ≡ no_day = h.day ∙ ap (λ (x : DayResult). day_after x lent) e in
      rw o e
  read_back (DayResult.refused n) e =
      let z = sym (day-answered w p (sym h.number)) ∙ e in
      absurd (let x : ◌≡◌ {A = ℕ} 0 1 = cc in omega arith)

  pub day-read-back : day_query w p ≡ DayResult.answered (when (ltb out no_day) out)
  day-read-back = read_back (day_query w p) refl

-- ---- an opening

-- questions 2 and 3 have given every table its exact length, so that clearing them opens the book; nothing of it but its month and counts
-- is looked at
pub opens-world : (b : Book) (o : Lists) → opening_answer (world_in b o) ≡ 0
    → world_in (fresh_book b.year b.month b.points b.suppliers b.elements) (cleared o) ≡ after_opening (world_in b o)
unfolding after_opening opened table_of line_places line_count month_first month_days
opens-world b o h =
    let p = passed (world_in b o) h in
    let n = lengths_asked (world_in b o) p.limited p.sized in
    rw h (rw (n.links.1, n.holders.1, n.states.1, n.readings, n.blocks, n.lines, n.sent))

-- the book and the lists that are left then
pub opened-world : (b c : Book) (o after : Lists) → opening_answer (world_in b o) ≡ 0
    → c ≡ fresh_book b.year b.month b.points b.suppliers b.elements → after ≡ cleared o
    → world_in c after ≡ after_opening (world_in b o)
opened-world b c o after h e k = ap₂ world_in e k ∙ opens-world b o h

pub opened-whole : (b c : Book) (o after : Lists) → opening_answer (world_in b o) ≡ 0
    → c ≡ fresh_book b.year b.month b.points b.suppliers b.elements → after ≡ cleared o
    → Whole (world_in c after)
unfolding after_opening
opened-whole b c o after h e k =
    let w = world_in b o in
    let n : after_opening w ≡ opened w = rw h in
    rw (opened-world b c o after h e k ∙ n) (begin-whole w (passed w h))

-- two worlds that are the same are of the same lists
same-lists : (b c : Book) (o p : Lists) → world_in b o ≡ world_in c p → o ≡ p
same-lists b c o p h =
    ap (λ (w : World). let t = w.position.tables in
    given w.opening.element_data w.opening.prices t.links.words t.holders.words t.states.words t.readings t.blocks w.position.lines
    w.sent.totals) h

-- in numbers, where the book `a` that the first five name was opened and the book `b` stands there afterwards
module _ (year month points suppliers elements : ℕ) (o after : Lists) (a b : Book) (n : ℕ)
    (e : a ≡ named_book year month points suppliers elements)
    (h : n ≡ opening_answer (world_in a o)) (k : world_in b after ≡ after_opening (world_in a o)) where
  abbrev fresh : Book
  fresh = fresh_book year month points suppliers elements

  same-answer : n ≡ opening_answer (world_in fresh o)
  unfolding opening_answer question2 question3 question4
  same-answer = h ∙ ap (λ (x : Book). opening_answer (world_in x o)) e

  opened-as : n ≡ 0 → world_in b after ≡ opened (world_in fresh o)
  unfolding after_opening opened month_first month_days
  opened-as z = k ∙ rw (sym h ∙ z) (ap (λ (x : Book). opened (world_in x o)) e)

  fresh-is : n ≡ 0 → b ≡ fresh
  unfolding opened table_of month_first month_days
  fresh-is z = ap book_of (opened-as z)

  pub opens-in : n ≡ 0 → (lent out : List ℕ) → out ≡ numbers_in b → OpensIn (world_in fresh o) (world_in fresh after) lent out 0
  unfolding after_opening
  opens-in z lent out i =
      let m : opening_answer (world_in fresh o) ≡ 0 = sym same-answer ∙ z in
      record {
        number = sym m;
        book = rw m (i ∙ ap numbers_in (fresh-is z));
        world = rw m (sym (world_as (fresh-is z)) ∙ opened-as z);
      }

  pub stays-in : n ≢ 0 → (r : ℕ) → r ≡ n → (lent : List ℕ) → OpensIn (world_in fresh o) (world_in fresh after) lent lent r
  unfolding after_opening
  stays-in z r i lent =
      let m = ne_eqb n 0 z in
      let q : eqb (opening_answer (world_in a o)) 0 ≡ false = rw h at m in
      let q' : eqb (opening_answer (world_in fresh o)) 0 ≡ false = rw same-answer at m in
      let same : after ≡ o = same-lists b a after o (k ∙ rw q) in
      record {
        number = i ∙ same-answer;
        book = rw q';
        world = rw q' (ap (world_in fresh) same);
      }

-- a book whose numbers were put
pub put_whole : (b : Book) (o : Lists) (out : List ℕ) → out ≡ numbers_in b → Whole (world_in b o) → Whole (world_in (book_in out) o)
put_whole b o out e h = subst (λ (x : List ℕ). Whole (world_in (book_in x) o)) (sym e) h

-- ---- a message

-- of a book that is not well formed
pub answer-book : (w : World) (f : Fields) (room : ℕ) → ask_book w 0 ≢ 0 → answer w f room ≡ ask_book w 0
unfolding answer
answer-book w f room h = book-refused w h _

-- and it changes nothing
pub replied-no-book : (w : World) (f : Fields) (r : Refusal) (lent : List ℤ) → refusal_number r ≡ ask_book w 0
    → Replied w w f (Err r) lent lent
unfolding step step_by accepted records_of written_by
replied-no-book w f r lent h =
    let k : refusal_number r ≡ answer w f (room_in lent)
    = h ∙ sym (answer-book w f (room_in lent) (λ z. refused_not r (h ∙ z))) in
    let q = ne_eqb (answer w f (room_in lent)) 0 (λ z. refused_not r (k ∙ z)) in
    record { number = k; world = rw q; list = rw q (numbers_none lent); count = rw q }

-- a refusal leaves the book
refused-book : {b c : Book} {f : Fields} (o after : Lists) (r : Result ℕ Refusal) (lent out : List ℤ)
    → Replied (world_in b o) (world_in c after) f r lent out → eqb (number_of r) 0 ≡ false → c ≡ b
unfolding step step_by accepted
refused-book {b = b} {f = f} o after r lent out h z =
    let still : step (world_in b o) f (room_in lent) ≡ world_in b o = rw (← h.number, z) in
    ap book_of (h.world ∙ still)

-- of the book and the fields that numbers name: the numbers that are put are those of the book afterwards
module _ {b c : Book} {f : Fields} (o after : Lists) (r : Result ℕ Refusal) (lent out : List ℤ) (was left : List ℕ)
    (e : b ≡ book_in was) (h : Replied (world_in b o) (world_in c after) f r lent out)
    (k : left ≡ cond (eqb (number_of r) 0) (numbers_in c) was) where
  pub put-book-is : book_in left ≡ c
  put-book-is = cases (eqb (number_of r) 0)
      (λ t. ap book_in (rw t at k))
      (λ t. ap book_in (rw t at k) ∙ sym e ∙ sym (refused-book o after r lent out h t))

  pub replies-in : {f₀ : Fields} (a n₀ n : ℕ) → f ≡ f₀ → a ≡ number_of r
      → n ≡ cond (eqb (number_of r) 0) (count_of r) n₀
      → RepliesIn (world_in (book_in was) o) (world_in (book_in left) after) f₀ a n₀ n lent out
  replies-in {f₀ = f₀} a n₀ n d i q =
      let h₁ = subst (λ (x : Book). Replied (world_in x o) (world_in c after) f r lent out) e h in
      let h₂ = subst (λ (x : Fields). Replied (world_in (book_in was) o) (world_in c after) x r lent out) d h₁ in
      record {
        number = i ∙ h₂.number;
        world = world_as put-book-is ∙ h₂.world;
        list = h₂.list;
        count = rw (← h₂.number, ← h₂.count) q;
      }

-- ---- an opening that questions 2 to 4 pass has a month of the calendar

pub limited-month : (w : World) → opening_answer w ≡ 0 → InRange w.opening.year w.opening.month
unfolding question2
limited-month w h = (limits w.opening (both (within_limits w.opening) _ (passed w h).limited).0).month

-- ---- amounts for the ledger

-- of a book reached from an opening, with eight bytes: the sum fits, and is fresh settlement's
module _ (w : World) (s owner r : ℕ) (lent out : List ℕ) (h : r ≡ sum_number w s owner (length lent)) (k : out ≡ sum_written w s owner lent)
    (w₀ : World) (vs : List Event) (a : opening_answer w₀ ≡ 0) (i : w ≡ (reached w₀ vs).world)
    (b : numbers_right w₀.opening.suppliers s owner ≡ true) (l : length lent ≡ packed_size) where
  -- the supplier is one of the book
  supplier : (1 ≤ s) × (s ≤ w₀.opening.suppliers)
  supplier = let k = (both (within 1 w₀.opening.suppliers s) _ b).0 in (within_low 1 _ s k, within-high 1 _ s k)

  sum_number_lem : sum_number (reached w₀ vs).world s owner (length lent) ≡ 0
  unfolding sum_number ask
  sum_number_lem =
      let d = demand3 w₀ a vs in
      let f = d.ledger_fits s owner supplier.0 supplier.1 in
      rw (reached-opening w₀ a vs, b, l, f) (whole-asked (reached w₀ vs).world d.whole 0)

  sum-packed : out ≡ packed (in_ore (owned_sum w₀.opening owner
      (λ e. line (terms_of w₀.opening) (fresh_facts (reached w₀ vs).fresh) Measure.amount s e)))
  unfolding sum_written
  sum-packed = k ∙ rw (i, sum_number_lem, (demand3 w₀ a vs).ledger_fresh s owner supplier.0 supplier.1)

pub packed_in : (w : World) (s owner r : ℕ) (lent out : List ℕ) → r ≡ sum_number w s owner (length lent) → out ≡ sum_written w s owner lent
    → PackedIn w s owner r lent out
packed_in w s owner r lent out h k = record {
  number = h;
  bytes = k;
  settled = λ w₀ vs a i b l. (
    h ∙ rw i (sum_number_lem w s owner r lent out h k w₀ vs a i b l),
    sum-packed w s owner r lent out h k w₀ vs a i b l,
  );
}

-- of a book that is not well formed
pub packed_no_book : (w : World) (s owner r : ℕ) → r ≡ ask_book w 0 → r ≢ 0 → (lent : List ℕ) → PackedIn w s owner r lent lent
unfolding sum_number sum_written
packed_no_book w s owner r h z lent =
    let k : r ≡ sum_number w s owner (length lent) = h ∙ sym (book-refused w (λ x. z (h ∙ x)) _) in
    packed_in w s owner r lent lent k (rw (ne_eqb (sum_number w s owner (length lent)) 0 (λ x. z (k ∙ x))))

-- bytes that are a packed number, and others
pub read_in : (bs : List ℕ) → is_packed bs ≡ true → (r : ℕ) → r ≡ 0 → (lent out : ℤ) → out ≡ packed_amount bs → ReadIn bs r lent out
unfolding read_packed when
read_in bs h r e lent out k = record { number = rw h e; amount = rw h k }

pub read_none : (bs : List ℕ) → is_packed bs ≡ false → (r : ℕ) → r ≡ 24 → (lent : ℤ) → ReadIn bs r lent lent
unfolding read_packed when
read_none bs h r e lent = record { number = rw h e; amount = rw h }
