-- A round by the tables alone: a line is what was sent exactly where its three numbers are, since an amount has one form; the records are
-- the rules', in their order; and what was sent is the lines, three numbers at a time.
use mathlib.Core.Path.{◌≡◌, refl, sym, ap, ap₂, ◌∙◌}
use mathlib.Core.Bool.{Bool, true, false, cond}
use mathlib.Core.List.{List, [], ◌∷◌, ◌++◌, append-nil}
use Prim.Native.Nat.{ℕ, zero, suc, ◌+◌, ◌-◌, ◌*◌, ◌/◌, ◌%◌, ◌≤◌, ◌<◌, min}
use native.Mathlib.Omega.{arith}
use native.Mathlib.Numerals.{add-one}
use native.Mathlib.Nat.{add-zero, zero-add}
use lib.IntN.{ℤ, pos, negsuc, nat_abs, ◌-ℤ◌}
use lib.ListN.{length, get_or, set, drop, take, length-append, drop_of_length-le}
use lib.Seq.{sets, set-get_or, paste, paste-suc, length-paste, take-length, get_or-drop, get_or-append-add, length-take-le}
use lib.Signed.{pos-nat_abs}
use lib.Dec.{eqb}
use borrow.Author.Tests.{eqb-true}
use mir.Syntax.{w64}
use mir.Val.{of_z}
use Rattle.integers.proofs.Integers.{abs_fits}
use Rattle.integers.proofs.Order.{bits_same}
use Rattle.integers.proofs.Linear.{lin, read, #, nat, ◌⊝◌, less_itself}
use Rattle.rules.specs.Sizes.{last_round, line_size, record_size}
use Rattle.rules.specs.declared.Book.{Book}
use Rattle.rules.specs.declared.Body.{Body}
use Rattle.rules.specs.declared.Body.TheVariants.{Round}
use Rattle.rules.specs.Lines.{Measure}
use Rattle.rules.specs.World.{World, line_count, kroner_of, billionths_of, stored_at, stored}
use Rattle.rules.specs.Lent.{Lists, world_in, lend_money}
use Rattle.rules.specs.WellFormed.{line_places, line_right, lines_right}
use Rattle.rules.specs.Whole.{Whole}
use Rattle.rules.specs.Effects.{supplier_of, element_of, difference, unmoved, line_of, balance, record_of, record_for, records_to, records}
use Rattle.rules.specs.Effects.{is_round, written, sent_after}
use Rattle.rules.proofs.Tests.{cases, both}
use Rattle.rules.proofs.Ranges.{within_low, within-high, all-at}
use Rattle.rules.proofs.Parts.{lengths, formed}
use Rattle.rules.proofs.Stored.{line-at}
use Rattle.rules.specs.declared.Line.{Line}
use Rattle.ledger.specs.Bounds.{LineOf}
use Rattle.ledger.specs.RecordNumbers.{record_numbers, numbers_after}
use Rattle.ledger.proofs.RecordNumbers.{length-after, numbers_put}
use Rattle.ledger.proofs.Bounds.{line-is, stored-within, stored_is}
use Rattle.ledger.specs.Moved.{moved_by, unmoved_at, lines_in, line_record, line_records, moved_count, line_copied, Comparable, Settled}
use Rattle.ledger.specs.Moved.{Sendable, LineSent}

-- ---- tests

pub same_test : (a b : Bool) → (a ≡ true → b ≡ true) → (b ≡ true → a ≡ true) → a ≡ b
same_test true b f g = sym (f refl)
same_test false true f g = g refl
same_test false false f g = refl

pub not_so : (a : Bool) → (a ≡ true → ⊥) → a ≡ false
not_so true f = absurd (f refl)
not_so false f = refl

-- ---- a line that has not moved

-- a difference of nothing
no_difference : (a b : ℤ) → eqb (nat_abs (a -ℤ b)) 0 ≡ true → a ≡ b
no_difference a b h = lin (# a) (# b) (omega (arith, read (# a ⊝ # b) (nat 0) (none (a -ℤ b) (eqb-true _ _ h))))
  where
    none : (z : ℤ) → nat_abs z ≡ 0 → z ≡ pos 0
    none (pos n) e = ap pos e
    none (negsuc n) e = absurd (omega arith)

module _ (ls ts : List ℤ) (at : ℕ) where
  -- the same three numbers
  pub same-unmoved : get_or ls at (pos 0) ≡ get_or ts at (pos 0) → get_or ls (at + 1) (pos 0) ≡ get_or ts (at + 1) (pos 0)
      → get_or ls (at + 2) (pos 0) ≡ get_or ts (at + 2) (pos 0) → unmoved_at ls ts at ≡ true
  unfolding unmoved_at moved_by stored_at
  same-unmoved q k b = rw (q, k, b, less_itself (stored_at ts Measure.quantity at), less_itself (stored_at ts Measure.amount at))

  -- and back, of lines in their one form
  module _ (h : Comparable ls ts at) (u : unmoved_at ls ts at ≡ true) where
    both-same : (stored_at ls Measure.quantity at ≡ stored_at ts Measure.quantity at)
        × (stored_at ls Measure.amount at ≡ stored_at ts Measure.amount at)
    unfolding unmoved_at moved_by
    both-same = let p = both (eqb (nat_abs (moved_by ls ts Measure.quantity at)) 0) _ u in
        (no_difference _ _ p.0, no_difference _ _ p.1)

    pub quantity-same : get_or ls at (pos 0) ≡ get_or ts at (pos 0)
    unfolding stored_at
    quantity-same = both-same.0

    pub kroner-same : get_or ls (at + 1) (pos 0) ≡ get_or ts (at + 1) (pos 0)
    kroner-same = (stored_is ls at h.line-right).kroner ∙ ap kroner_of both-same.1 ∙ sym (stored_is ts at h.total_right).kroner

    pub billionths-same : get_or ls (at + 2) (pos 0) ≡ get_or ts (at + 2) (pos 0)
    billionths-same =
        let l = pos-nat_abs (get_or ls (at + 2) (pos 0)) (stored-within ls at h.line-right).billionths.upwards in
        let t = pos-nat_abs (get_or ts (at + 2) (pos 0)) (stored-within ts at h.total_right).billionths.upwards in
        sym l ∙ ap pos ((stored_is ls at h.line-right).billionths ∙ ap billionths_of both-same.1
        ∙ sym (stored_is ts at h.total_right).billionths) ∙ t

    -- copying such a line changes nothing
    pub copied_same : ts ≡ line_copied ls ts at
    unfolding line_copied
    copied_same =
        rw (quantity-same, kroner-same, billionths-same, set-get_or ts at (pos 0), set-get_or ts (at + 1) (pos 0))
        (sym (set-get_or ts (at + 2) (pos 0)))

-- the same bits are the same numbers
module _ (ls ts : List ℤ) (at : ℕ) (h : Comparable ls ts at) where
  pub quantity_bits : of_z w64 (get_or ls at (pos 0)) ≡ of_z w64 (get_or ts at (pos 0)) → get_or ls at (pos 0) ≡ get_or ts at (pos 0)
  quantity_bits e =
      let l = (stored-within ls at h.line-right).quantity in
      let t = (stored-within ts at h.total_right).quantity in
      bits_same (abs_fits _ (omega arith)) (abs_fits _ (omega arith)) e

  pub kroner_bits : of_z w64 (get_or ls (at + 1) (pos 0)) ≡ of_z w64 (get_or ts (at + 1) (pos 0))
      → get_or ls (at + 1) (pos 0) ≡ get_or ts (at + 1) (pos 0)
  kroner_bits e =
      let l = (stored-within ls at h.line-right).kroner in
      let t = (stored-within ts at h.total_right).kroner in
      bits_same (abs_fits _ (omega arith)) (abs_fits _ (omega arith)) e

  pub billionths_bits : of_z w64 (get_or ls (at + 2) (pos 0)) ≡ of_z w64 (get_or ts (at + 2) (pos 0))
      → get_or ls (at + 2) (pos 0) ≡ get_or ts (at + 2) (pos 0)
  billionths_bits e =
      let l = (stored-within ls at h.line-right).billionths.below in
      let t = (stored-within ts at h.total_right).billionths.below in
      bits_same (abs_fits _ (omega arith)) (abs_fits _ (omega arith)) e

-- each line of a book can be compared
pub sendable : (b : Book) (ls ts : List ℤ) → Settled b ls ts → (k : ℕ) → k < lines_in b → Sendable b ls ts k
sendable b ls ts h k l =
    record {
      suppliers = h.suppliers;
      elements = h.elements;
      round-high = h.round-high;
      below = l;
      compared = record {
        line = omega (arith, h.lines);
        total = omega (arith, h.totals);
        line-right = all-at (λ i. line_right ls (i * line_size)) (lines_in b) h.lines-right k l;
        total_right = all-at (λ i. line_right ts (i * line_size)) (lines_in b) h.totals-right k l;
      };
    }

-- ---- the records

line_of_lem : (r : Line) (q v : ℤ) (x y : ℕ) → LineOf r q v x y → r ≡ line_of q v
unfolding line_of
line_of_lem r q v x y g = λ i. record { quantity = g.quantity i; kroner = g.kroner i; billionths = g.billionths i }

pub record_is : (b : Book) (ls ts : List ℤ) (k : ℕ) (r l : Line) (x y u v : ℕ)
    → LineOf r (moved_by ls ts Measure.quantity (k * line_size)) (moved_by ls ts Measure.amount (k * line_size)) x y
    → LineOf l (stored_at ls Measure.quantity (k * line_size)) (stored_at ls Measure.amount (k * line_size)) u v
    → record { kind = b.round; supplier = k / b.elements + 1; element = k % b.elements; moved = r; balance = l } ≡ line_record b ls ts k
unfolding line_record
record_is b ls ts k r l x y u v g h = rw (line_of_lem r _ _ x y g, line_of_lem l _ _ u v h)

-- how many lines have moved, one line more at a time
module _ (ls ts : List ℤ) where
  pub count_none : moved_count ls ts 0 ≡ 0
  unfolding moved_count
  count_none = refl

  pub count_more : (k : ℕ) → moved_count ls ts (k + 1) ≡ moved_count ls ts k + cond (unmoved_at ls ts (k * line_size)) 0 1
  unfolding moved_count
  count_more k = rw (add-one k)

  -- at most as many as there are
  pub count-few : (k : ℕ) → moved_count ls ts k ≤ k
  unfolding moved_count
  count-few zero = omega arith
  count-few (suc k) = let h = count-few k in cases (unmoved_at ls ts (k * line_size)) (λ t. rw t (omega arith)) (λ t. rw t (omega arith))

  -- the first lines have no more than all
  pub count_grows : (k n : ℕ) → moved_count ls ts k ≤ moved_count ls ts (k + n)
  count_grows k zero = rw add-zero (omega arith)
  count_grows k (suc n) =
      let e : k + suc n ≡ k + n + 1 = omega arith in
      rw (e, count_more (k + n)) (omega (arith, count_grows k n))

module _ (b : Book) (ls ts : List ℤ) where
  pub records_none : line_records b ls ts 0 ≡ []
  unfolding line_records
  records_none = refl

  pub records_more : (k : ℕ) → line_records b ls ts (k + 1) ≡ line_records b ls ts k ++ cond (unmoved_at ls ts (k * line_size)) []
      (line_record b ls ts k ∷ [])
  unfolding line_records
  records_more k = rw (add-one k)

  pub count-is : (k : ℕ) → length (line_records b ls ts k) ≡ moved_count ls ts k
  unfolding line_records moved_count
  count-is zero = refl
  count-is (suc k) =
      length-append (line_records b ls ts k) (cond (unmoved_at ls ts (k * line_size)) [] (line_record b ls ts k ∷ []))
      ∙ rw (count-is k) (one (unmoved_at ls ts (k * line_size)) (moved_count ls ts k))
    where
      one : (u : Bool) (m : ℕ) → m + length (cond u [] (line_record b ls ts k ∷ [])) ≡ m + cond u 0 1
      one true m = refl
      one false m = refl

  -- they are the rules'
  module _ (o : Lists) where
    abbrev world : World
    world = world_in b (lend_money ls ts o)

    records-to : (k : ℕ) → k ≤ lines_in b → records_to world k ≡ line_records b ls ts k
    unfolding records_to record_for record_of line_of balance unmoved difference stored line_records line_record unmoved_at moved_by line_count
        supplier_of element_of
    records-to zero l = refl
    records-to (suc k) l = rw (records-to k (omega arith), line-at world.opening k (unfold line_count in omega arith))

    pub round-records : records world ≡ line_records b ls ts (lines_in b)
    unfolding records line_count
    round-records = records-to (lines_in b) (omega arith)

-- ---- what was sent, three numbers at a time

module _ (ls ts : List ℤ) (e : length ls ≡ length ts) where
  -- a number more
  copied_more : (i j : ℕ) → i < length ls → j ≡ i + 1 → set (paste ts 0 ls i) i (get_or ls i (pos 0)) ≡ paste ts 0 ls j
  copied_more i j l n =
      ap (λ (x : ℕ). set (paste ts 0 ls i) x (get_or ls i (pos 0))) (sym (zero-add i))
      ∙ paste-suc ts 0 ls i (pos 0) (omega arith) l
      ∙ ap (paste ts 0 ls) (sym (n ∙ add-one i))

  -- all of them
  pub copied_whole : (n : ℕ) → n ≡ length ls → paste ts 0 ls n ≡ ls
  copied_whole n h = rw (h, take-length ls, zero-add, drop_of_length-le ts {i = length ls} (omega arith)) (append-nil ls)

  -- those behind are as they were
  past_copied : (i j : ℕ) → i ≤ j → i ≤ length ls → get_or (paste ts 0 ls i) j (pos 0) ≡ get_or ts j (pos 0)
  past_copied i j h l =
      let n : length (take i ls) ≡ i = length-take-le i ls l in
      let m : j ≡ length (take i ls) + (j - i) = rw n (omega arith) in
      let d : i + (j - i) ≡ j = omega arith in
      rw zero-add
      (ap (λ (x : ℕ). get_or (take i ls ++ drop i ts) x (pos 0)) m
      ∙ get_or-append-add (take i ls) (drop i ts) (j - i) (pos 0)
      ∙ get_or-drop i ts (j - i) (pos 0)
      ∙ ap (λ (x : ℕ). get_or ts x (pos 0)) d)

  pub length_copied : (i : ℕ) → i ≤ length ls → length (paste ts 0 ls i) ≡ length ts
  length_copied i l = length-paste ts 0 ls i (omega arith) l

  module _ (k : ℕ) (l : k * line_size + 2 < length ls) where
    stored_past : (m : Measure) → stored_at (paste ts 0 ls (k * line_size)) m (k * line_size) ≡ stored_at ts m (k * line_size)
    unfolding stored_at
    stored_past Measure.quantity = past_copied (k * line_size) (k * line_size) (omega arith) (omega arith)
    stored_past Measure.amount =
        rw (
          past_copied (k * line_size) (k * line_size + 1) (omega arith) (omega arith),
          past_copied (k * line_size) (k * line_size + 2) (omega arith) (omega arith),
        )

    -- so the line is compared with what was sent
    pub unmoved-past : unmoved_at ls (paste ts 0 ls (k * line_size)) (k * line_size) ≡ unmoved_at ls ts (k * line_size)
    unfolding unmoved_at moved_by
    unmoved-past = rw (stored_past Measure.quantity, stored_past Measure.amount)

    pub record_past : (b : Book) → line_record b ls (paste ts 0 ls (k * line_size)) k ≡ line_record b ls ts k
    unfolding line_record moved_by
    record_past b = rw (stored_past Measure.quantity, stored_past Measure.amount)

    pub right-past : line_right (paste ts 0 ls (k * line_size)) (k * line_size) ≡ line_right ts (k * line_size)
    right-past =
        line-is (paste ts 0 ls (k * line_size)) (k * line_size)
        ∙ rw (
          past_copied (k * line_size) (k * line_size) (omega arith) (omega arith),
          past_copied (k * line_size) (k * line_size + 1) (omega arith) (omega arith),
          past_copied (k * line_size) (k * line_size + 2) (omega arith) (omega arith),
        ) (sym (line-is ts (k * line_size)))

    -- and one line more is copied
    pub line_copied_lem : line_copied ls (paste ts 0 ls (k * line_size)) (k * line_size) ≡ paste ts 0 ls ((k + 1) * line_size)
    unfolding line_copied
    line_copied_lem =
        rw (
          copied_more (k * line_size) (k * line_size + 1) (omega arith) refl,
          copied_more (k * line_size + 1) (k * line_size + 2) (omega arith) (omega arith),
        ) (copied_more (k * line_size + 2) ((k + 1) * line_size) (omega arith) (omega arith))

-- ---- the list, one line more

pub list_more : (b : Book) (ls ts : List ℤ) (k n : ℕ) (lent out out' : List ℤ) → n ≡ moved_count ls ts k
    → out ≡ numbers_after (line_records b ls ts k) lent
    → out' ≡ cond (unmoved_at ls ts (k * line_size)) out (sets out (n * record_size) (record_numbers (line_record b ls ts k)))
    → (unmoved_at ls ts (k * line_size) ≡ false → (n + 1) * record_size ≤ length lent)
    → out' ≡ numbers_after (line_records b ls ts (k + 1)) lent
list_more b ls ts k n lent out out' e p q h = cases (unmoved_at ls ts (k * line_size))
    (λ t. q ∙ rw (t, p, records_more b ls ts k, t, append-nil))
    (λ t. q ∙ rw (t, p, records_more b ls ts k, t)
    (numbers_put (line_records b ls ts k) (line_record b ls ts k) lent n (count-is b ls ts k ∙ sym e) (h t)))

-- a list has room for the record of a line that has moved
pub list-room : (ls ts : List ℤ) (count k n room : ℕ) → k < count → n ≡ moved_count ls ts k
    → moved_count ls ts count * record_size ≤ room → unmoved_at ls ts (k * line_size) ≡ false → (n + 1) * record_size ≤ room
list-room ls ts count k n room l e h u =
    let g = count_grows ls ts (k + 1) (count - (k + 1)) in
    let z : k + 1 + (count - (k + 1)) ≡ count = omega arith in
    let i : moved_count ls ts (k + 1) ≤ moved_count ls ts count = rw z at g in
    let m : moved_count ls ts (k + 1) ≡ moved_count ls ts k + 1 = count_more ls ts k ∙ rw u in
    omega arith

-- ---- a turn of a round: the first lines are copied, and their records stand at the front of the list

module _ (b : Book) (ls ts lent : List ℤ) (h : Settled b ls ts) (room : moved_count ls ts (lines_in b) * record_size ≤ length lent) where
  same-long : length ls ≡ length ts
  same-long = h.lines ∙ sym h.totals

  records-long : (k : ℕ) → k ≤ lines_in b → length (line_records b ls ts k) * record_size ≤ length lent
  records-long k l =
      let g = count_grows ls ts k (lines_in b - k) in
      let z : k + (lines_in b - k) ≡ lines_in b = omega arith in
      let i : moved_count ls ts k ≤ moved_count ls ts (lines_in b) = rw z at g in
      rw (count-is b ls ts k) (omega arith)

  pub list-long : (k : ℕ) → k ≤ lines_in b → length (numbers_after (line_records b ls ts k) lent) ≡ length lent
  list-long k l = length-after (line_records b ls ts k) lent (records-long k l)

  module _ (k : ℕ) (l : k < lines_in b) where
    inside : k * line_size + 2 < length ls
    inside = omega (arith, h.lines)

    pub turn_sendable : Sendable b ls (paste ts 0 ls (k * line_size)) k
    turn_sendable =
        let s = (sendable b ls ts h k l).compared in
        record {
          suppliers = h.suppliers;
          elements = h.elements;
          round-high = h.round-high;
          below = l;
          compared = record {
            line = s.line;
            total = rw (length_copied ls ts same-long (k * line_size) (omega (arith, inside))) s.total;
            line-right = s.line-right;
            total_right = right-past ls ts same-long k inside ∙ s.total_right;
          };
        }

    pub turn_room : (n : ℕ) → n ≡ moved_count ls ts k → unmoved_at ls (paste ts 0 ls (k * line_size)) (k * line_size) ≡ false
        → (n + 1) * record_size ≤ length (numbers_after (line_records b ls ts k) lent)
    turn_room n e u =
        rw (list-long k (omega arith)) (list-room ls ts (lines_in b) k n (length lent) l e room
        (sym (unmoved-past ls ts same-long k inside) ∙ u))

    pub turn_done : (n next : ℕ) (ts' out out' : List ℤ) → n ≡ moved_count ls ts k → out ≡ numbers_after (line_records b ls ts k) lent
        → LineSent b ls (paste ts 0 ls (k * line_size)) ts' k n next out out'
        → (ts' ≡ paste ts 0 ls ((k + 1) * line_size)) × (next ≡ moved_count ls ts (k + 1))
        × (out' ≡ numbers_after (line_records b ls ts (k + 1)) lent)
    turn_done n next ts' out out' e p g =
        let u = unmoved-past ls ts same-long k inside in (
          g.sent ∙ line_copied_lem ls ts same-long k inside,
          g.place ∙ rw (u, e) (one (unmoved_at ls ts (k * line_size)) (moved_count ls ts k)) ∙ sym (count_more ls ts k),
          list_more b ls ts k n lent out out' e p (g.list ∙ rw (u, record_past ls ts same-long k inside b))
              (λ t. list-room ls ts (lines_in b) k n (length lent) l e room t),
        )
      where
        one : (x : Bool) (m : ℕ) → cond x m (m + 1) ≡ m + cond x 0 1
        one true m = sym (add-zero m)
        one false m = refl

-- ---- a book that is well formed

pub settled : (b : Book) (o : Lists) → Whole (world_in b o) → Settled b o.lines o.sent
unfolding line_places lines_right line_count
settled b o h =
    let n = lengths (world_in b o) h in
    let r = formed (world_in b o) h in
    record {
      suppliers = n.limited.suppliers;
      elements = n.limited.elements;
      round-low = within_low 1 last_round b.round r.round;
      round-high = within-high 1 last_round b.round r.round;
      lines = n.lines;
      totals = n.sent;
      lines-right = r.lines;
      totals-right = r.sent;
    }

-- ---- what an accepted message sends

pub round-written : (w : World) → written w Round ≡ records w
unfolding written is_round
round-written w = refl

-- the sent totals are the lines, and the kind advances, records or not
pub round-sent : (w : World) (totals : List ℤ) (round : ℕ) → totals ≡ w.position.lines → round ≡ min last_round (w.sent.round + 1)
    → sent_after w Round ≡ record { totals = totals; round = round }
unfolding sent_after is_round
round-sent w totals round p q = ap₂ (λ (l : List ℤ) (r : ℕ). record { totals = l; round = r }) (sym p) (sym q)

-- any other message sends nothing
pub other_written : (w : World) (b : Body) → is_round b ≡ false → written w b ≡ []
unfolding written
other_written w b h = rw h

pub other_sent : (w : World) (b : Body) → is_round b ≡ false → sent_after w b ≡ w.sent
unfolding sent_after
other_sent w b h = rw h
