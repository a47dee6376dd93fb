-- A round's records add up to what the lines have moved since the last, and carry what the lines stand at. A line that has not moved has no
-- record, and stands at what was sent.
use mathlib.Core.Path.{◌≡◌, refl, sym, ap, ap₂, subst, ◌∙◌}
use Prim.Native.Nat.{ℕ, zero, suc, ◌+◌, ◌-◌, ◌*◌, ◌≤◌, ◌<◌}
use mathlib.Core.Bool.{true, false, ◌&&◌, cond}
use mathlib.Core.List.Memᴰ
use mathlib.Core.List.{List, [], ◌∷◌, ◌++◌, Memᴰ}
use Rattle.std.specs.Prelude.{Option, None, Some}
use mathlib.Core.Logic.{⊎_elim}
use lib.IntN.{ℤ, pos, negsuc, nat_abs, ◌+ℤ◌, +ℤ_idl, +ℤ_idr, +ℤ_assoc}
use lib.Dec.{eqb}
use native.Mathlib.Omega.{arith}
use borrow.Author.Tests.{eq-eqb, eqb-true}
use Rattle.integers.proofs.Linear.{back_again}
use Rattle.integers.specs.Sums.{sum_to}
use Rattle.integers.proofs.Sums.{sum_one}
use Rattle.rules.specs.declared.Record.{Record}
use Rattle.rules.specs.Lines.{Measure}
use Rattle.rules.specs.World.{Opening, World, line_count, stored, InBook}
use Rattle.rules.specs.Effects.{supplier_of, element_of, difference, unmoved, line_of, balance, record_of, record_for, records_to}
use Rattle.rules.specs.Effects.{records}
use Rattle.rules.specs.Queries.{LineResult, line_named}
use Rattle.rules.specs.Claim.{is_of, moves, total, balance_of, last_record}
use Rattle.rules.proofs.Tests.{cases, both, eqb_ne}
use Rattle.rules.proofs.Stored.{amount_back, supplier_of_lem, element_of_lem, line-below, in_book, line-only}

nat_abs-zero : (a : ℤ) → nat_abs a ≡ 0 → a ≡ pos 0
nat_abs-zero (pos n) e = ap pos e
nat_abs-zero (negsuc n) e = absurd (omega arith)

pub total-append : (m : Measure) (s e : ℕ) (xs ys : List Record) → total m s e (xs ++ ys) ≡ total m s e xs +ℤ total m s e ys
unfolding total
total-append m s e [] ys = sym (+ℤ_idl (total m s e ys))
total-append m s e (r ∷ rs) ys =
    ap (λ x. cond (is_of s e r) (moves m r) (pos 0) +ℤ x) (total-append m s e rs ys)
    ∙ sym (+ℤ_assoc (cond (is_of s e r) (moves m r) (pos 0)) (total m s e rs) (total m s e ys))

unmoved-zero : (w : World) (m : Measure) (s e : ℕ) → unmoved w s e ≡ true → difference w m s e ≡ pos 0
unfolding unmoved
unmoved-zero w m s e h =
    let k = both (eqb (nat_abs (difference w Measure.quantity s e)) 0) (eqb (nat_abs (difference w Measure.amount s e)) 0) h in
    by m (nat_abs-zero _ (eqb-true _ _ k.0)) (nat_abs-zero _ (eqb-true _ _ k.1))
  where
    by : (m : Measure) → difference w Measure.quantity s e ≡ pos 0 → difference w Measure.amount s e ≡ pos 0 → difference w m s e ≡ pos 0
    by Measure.quantity a b = a
    by Measure.amount a b = b

moves_record : (w : World) (m : Measure) (s e : ℕ) → moves m (record_of w s e) ≡ difference w m s e
unfolding moves record_of line_of
moves_record w Measure.quantity s e = refl
moves_record w Measure.amount s e = amount_back (difference w Measure.amount s e)

-- the record of a line tells of that line, and of no other
own : (w : World) (m : Measure) (s e : ℕ) → total m s e (record_for w s e) ≡ difference w m s e
unfolding record_for total record_of
own w m s e = cases (unmoved w s e)
    (λ q. rw q (sym (unmoved-zero w m s e q)))
    (λ q. rw (q, eq-eqb s s refl, eq-eqb e e refl, +ℤ_idr) (moves_record w m s e))

other : (w : World) (m : Measure) (s e x y : ℕ) → eqb x s && eqb y e ≡ false → total m s e (record_for w x y) ≡ pos 0
unfolding record_for total record_of
other w m s e x y n = cases (unmoved w x y) (λ q. rw q) (λ q. rw (q, n))

total-to : (w : World) (m : Measure) (s e k : ℕ)
    → total m s e (records_to w k) ≡ sum_to (λ j. total m s e (record_for w (supplier_of w.opening j) (element_of w.opening j))) k
unfolding records_to sum_to total
total-to w m s e zero = refl
total-to w m s e (suc k) =
    total-append m s e (records_to w k) (record_for w (supplier_of w.opening k) (element_of w.opening k))
    ∙ ap (λ x. x +ℤ total m s e (record_for w (supplier_of w.opening k) (element_of w.opening k))) (total-to w m s e k)

not_both : (x y s e : ℕ) → (x ≡ s → y ≡ e → ⊥) → eqb x s && eqb y e ≡ false
not_both x y s e h = cases (eqb x s)
    (λ t. cases (eqb y e)
    (λ u. absurd (h (eqb-true x s t) (eqb-true y e u)))
    (λ u. rw (t, u)))
    (λ t. rw t)

-- a round's records say the difference of each supplier and element of the book
pub total-records : (w : World) (m : Measure) (s e : ℕ) → InBook w.opening s e → total m s e (records w) ≡ difference w m s e
unfolding records
total-records w m s e b =
    total-to w m s e (line_count w.opening)
    ∙ sum_one _ ((s - 1) * w.opening.elements + e) (line_count w.opening) (line-below w.opening s e b)
    (λ i k n. other w m s e (supplier_of w.opening i) (element_of w.opening i)
    (not_both _ _ s e (λ x y. n (line-only w.opening s e i x y))))
    ∙ rw (supplier_of_lem w.opening s e b, element_of_lem w.opening s e b) (own w m s e)

-- where the records so far add up to what was sent, those of one round more add up to the lines
pub total-round : (w : World) (xs : List Record) (m : Measure) (s e : ℕ) → InBook w.opening s e
    → total m s e xs ≡ stored w.opening w.sent.totals m s e
    → total m s e (xs ++ records w) ≡ stored w.opening w.position.lines m s e
unfolding difference
total-round w xs m s e b h =
    total-append m s e xs (records w) ∙ rw (h, total-records w m s e b)
    (back_again (stored w.opening w.sent.totals m s e) (stored w.opening w.position.lines m s e))

-- ---- balances

-- a stored line, in the form of the line query's answer
abbrev pub stored_line : Opening → (lines : List ℤ) → (supplier element : ℕ) → LineResult
stored_line o ls s e = line_named (stored o ls Measure.quantity s e) (stored o ls Measure.amount s e)

balance_record : (w : World) (s e : ℕ) → balance_of (record_of w s e) ≡ stored_line w.opening w.position.lines s e
unfolding balance_of record_of line_of balance line_named
balance_record w s e = refl

-- a line that has not moved is what was sent
same_line : (w : World) (s e : ℕ) → unmoved w s e ≡ true
    → stored_line w.opening w.sent.totals s e ≡ stored_line w.opening w.position.lines s e
unfolding difference
same_line w s e h = ap₂ line_named (same Measure.quantity) (same Measure.amount)
  where
    same : (m : Measure) → stored w.opening w.sent.totals m s e ≡ stored w.opening w.position.lines m s e
    same m =
        sym (+ℤ_idr (stored w.opening w.sent.totals m s e))
        ∙ ap (λ x. stored w.opening w.sent.totals m s e +ℤ x) (sym (unmoved-zero w m s e h))
        ∙ back_again (stored w.opening w.sent.totals m s e) (stored w.opening w.position.lines m s e)

-- a record is of one line of the book
record LineRecord (w : World) (r : Record) : Type 0 where
  line : InBook w.opening r.supplier r.element
  is : r ≡ record_of w r.supplier r.element

line_record_lem : (w : World) (s e : ℕ) → InBook w.opening s e → LineRecord w (record_of w s e)
unfolding record_of
line_record_lem w s e b = record { line = b; is = refl }

one_record : (w : World) (k : ℕ) → k < line_count w.opening → (r : Record)
    → Memᴰ r (record_for w (supplier_of w.opening k) (element_of w.opening k)) → LineRecord w r
unfolding record_for
one_record w k h r m =
    let s = supplier_of w.opening k in
    let e = element_of w.opening k in
    cases (unmoved w s e)
    (λ t. absurd (Memᴰ.not-nil (rw t at m)))
    (λ t. subst (LineRecord w) (sym (Memᴰ.eq_of_singleton (rw t at m))) (line_record_lem w s e (in_book w.opening k h)))

each_to : (w : World) (k : ℕ) → k ≤ line_count w.opening → (r : Record) → Memᴰ r (records_to w k) → LineRecord w r
unfolding records_to
each_to w zero h r m = absurd (Memᴰ.not-nil m)
each_to w (suc k) h r m =
    ⊎_elim (each_to w k (omega arith) r) (one_record w k (omega arith) r) (Memᴰ.append_cases (records_to w k) m)

-- each record of a round carries what its line stands at
pub each-balance : (w : World) (r : Record) → Memᴰ r (records w)
    → InBook w.opening r.supplier r.element
    × (balance_of r ≡ stored_line w.opening w.position.lines r.supplier r.element)
unfolding records
each-balance w r m =
    let l = each_to w (line_count w.opening) (omega arith) r m in
    (l.line, ap balance_of l.is ∙ balance_record w r.supplier r.element)

-- ---- the last record of a line

module _ (s e : ℕ) where
  last-append : (found : Option Record) (xs ys : List Record)
      → last_record s e found (xs ++ ys) ≡ last_record s e (last_record s e found xs) ys
  unfolding last_record
  last-append found [] ys = refl
  last-append found (r ∷ rs) ys = last-append (cond (is_of s e r) (Some r) found) rs ys

  -- a line's own record comes last, where there is one
  unfoldable last_own : World → Option Record → Option Record
  last_own w found = cond (unmoved w s e) found (Some (record_of w s e))

  last-own : (w : World) (found : Option Record) → last_record s e found (record_for w s e) ≡ last_own w found
  unfolding record_for last_record record_of last_own
  last-own w found = cases (unmoved w s e)
      (λ q. rw q)
      (λ q. rw (q, eq-eqb s s refl, eq-eqb e e refl))

  last_other : (w : World) (x y : ℕ) (found : Option Record) → eqb x s && eqb y e ≡ false
      → last_record s e found (record_for w x y) ≡ found
  unfolding record_for last_record record_of
  last_other w x y found n = cases (unmoved w x y) (λ q. rw q) (λ q. rw (q, n))

  module _ (w : World) (b : InBook w.opening s e) (found : Option Record) where
    abbrev own-place : ℕ
    own-place = (s - 1) * w.opening.elements + e

    -- a line more, of another supplier or element
    last_more : (k : ℕ) → (own-place ≡ k → ⊥) → last_record s e found (records_to w (suc k)) ≡ last_record s e found (records_to w k)
    unfolding records_to
    last_more k n =
        last-append found (records_to w k) _
        ∙ last_other w (supplier_of w.opening k) (element_of w.opening k) (last_record s e found (records_to w k))
        (not_both _ _ s e (λ x y. n (sym (line-only w.opening s e k x y))))

    last-before : (k : ℕ) → k ≤ own-place → last_record s e found (records_to w k) ≡ found
    last-before zero h = unfold records_to last_record in refl
    last-before (suc k) h = last_more k (λ n. omega arith) ∙ last-before k (omega arith)

    last-here : last_record s e found (records_to w (suc own-place)) ≡ last_own w found
    unfolding records_to
    last-here =
        last-append found (records_to w own-place) _
        ∙ rw (last-before own-place (omega arith), supplier_of_lem w.opening s e b, element_of_lem w.opening s e b) (last-own w found)

    last-behind : (k : ℕ) → own-place < k → last_record s e found (records_to w k) ≡ last_own w found
    last-behind zero h = absurd (omega arith)
    last-behind (suc k) h = cases (eqb own-place k)
        (λ t. rw (← eqb-true own-place k t) last-here)
        (λ t. let n = eqb_ne own-place k t in last_more k n ∙ last-behind k (omega arith))

    last-records : last_record s e found (records w) ≡ last_own w found
    unfolding records
    last-records = last-behind (line_count w.opening) (line-below w.opening s e b)

-- where the last balance of a line is what was sent, it is the line after one round more
pub last-round : (w : World) (xs : List Record) (s e : ℕ) → InBook w.opening s e
    → ((r : Record) → last_record s e None xs ≡ Some r → balance_of r ≡ stored_line w.opening w.sent.totals s e)
    → (r : Record) → last_record s e None (xs ++ records w) ≡ Some r
    → balance_of r ≡ stored_line w.opening w.position.lines s e
unfolding last_own
last-round w xs s e b h r l =
    let k : last_own s e w (last_record s e None xs) ≡ Some r =
    sym (last-append s e None xs (records w) ∙ last-records s e w b (last_record s e None xs)) ∙ l in
    cases (unmoved w s e)
    (λ q. h r (rw q at k) ∙ same_line w s e q)
    (λ q. let x : Some (record_of w s e) ≡ Some r = rw q at k in
    let y : r ≡ record_of w s e = cc in ap balance_of y ∙ balance_record w s e)
