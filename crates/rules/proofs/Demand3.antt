-- Demand 3, whole. What holds at an opening and is kept by every message: the book is whole, its tables say what fresh settlement says, its
-- lines are what the rules give from them, the records add up to what was sent, and the last record of a line carries it. The claim's parts
-- follow from that.
use mathlib.Core.Path.{◌≡◌, refl, sym, ap, ap₂, ◌∙◌, subst}
use Prim.Native.Nat.{ℕ, suc, ◌+◌, ◌*◌, ◌^◌, ◌≤◌, ◌<◌}
use mathlib.Core.Bool.{Bool, true, false, ◌&&◌, false≢true}
use mathlib.Core.List.Memᴰ
use mathlib.Core.List.{List, [], ◌∷◌, ◌++◌, append-nil, append_assoc, Memᴰ}
use Rattle.std.specs.Prelude.{Option, None, Some}
use lib.IntN.{nat_abs, +ℤ_idr}
use lib.ListN.{length}
use lib.Dec.{eqb}
use borrow.Author.Tests.{lt-ltb}
use native.Mathlib.Nat.{le_trans}
use native.Mathlib.Omega.{arith}
use Rattle.integers.proofs.Linear.{back_again, less_itself}
use Rattle.integers.specs.Sums.{sum_to}
use Rattle.integers.proofs.Sums.{sum_cong, sum_abs}
use Rattle.integers.proofs.Nearest.{nearest_abs}
use Rattle.rules.specs.Sizes.{holder_size}
use Rattle.rules.specs.declared.Fields.{Fields}
use Rattle.rules.specs.declared.Body.{Body}
use Rattle.rules.specs.declared.Body.TheVariants.{Link, Stop, Quantity, Holder, State, Reading, Block, Round}
use Rattle.rules.specs.declared.Message.{Message}
use Rattle.rules.specs.declared.Record.{Record}
use Rattle.rules.specs.Lines.{Measure, owed_by_holder, line}
use Rattle.rules.specs.World.{Opening, Tables, World, rows_of, month_first, month_days, stored, owner_of, InBook}
use Rattle.rules.specs.World.{terms_by, terms_of, facts_of}
use Rattle.rules.specs.WellFormed.{within_limits, rows_fit, line_limit, element_right, value_right, earlier, lines_right, holders_right}
use Rattle.rules.specs.WellFormed.{tables_right, question2, question4, question5}
use Rattle.rules.specs.Messages.{understood, body_in}
use Rattle.rules.specs.Questions.{point_of}
use Rattle.rules.specs.Effects.{told, moved_line, moved_lines, is_round, sent_after, written, written_by, records_of, tables_after}
use Rattle.rules.specs.Effects.{lines_after, posted, question17, answer, accepted, step_by, step}
use Rattle.rules.specs.Opening.{opening_answer, opened}
use Rattle.rules.specs.Queries.{line_query, line_named, line_given, own_line, named}
use Rattle.rules.specs.Packed.{owned_sum, ledger_sum, ore, ledger_amount, digit_count, fits}
use Rattle.rules.specs.Fresh.{Fresh, heard, heard_body, hear, fresh_facts}
use Rattle.rules.specs.Claim.{Event, History, advance, advance_all, begin, reached, total, balance_of, last_record, LastBalance}
use Rattle.rules.specs.Claim.{LastStands, Holds, reached_limit, Kept, Demand3}
use Rattle.rules.proofs.Tests.{cases, both, none_some}
use Rattle.rules.proofs.Ranges.{all-at, latest-high}
use Rattle.rules.proofs.ValuesRight.{recorded_high}
use Rattle.rules.proofs.LineLaws.{line_cong, line_but, point_line_none, lines-total}
use Rattle.rules.proofs.Bounds.{line_small}
use Rattle.rules.proofs.Stored.{stored_lines, lines-right}
use Rattle.rules.proofs.Rounds.{total-round, stored_line, last-round, each-balance}
use Rattle.rules.specs.Whole.{Limits, TablesRight, Whole}
use Rattle.rules.proofs.Parts.{limits, table_each, tables_parts}
use Rattle.rules.proofs.Passed.{about, round-body, behind, refused_17, taken}
use Rattle.rules.specs.Ready.{Ready}
use Rattle.rules.proofs.Agree.{Agree, agree-told}
use Rattle.rules.proofs.Kept.{told-right, posted-whole}
use Rattle.rules.proofs.FreshLaws.{heard_other, same-unmoved, same-agree}
use Rattle.rules.proofs.LineQuery.{query_stored, named-stored}
use Rattle.rules.proofs.Small.{bounded}
use Rattle.rules.proofs.Begin.{passed, begin-whole, begin-agree, begin-line, begin-sent, line-nothing}

-- ---- one event, by the body that it was accepted with

unfoldable after : History → Option Body → History
after h x =
    record {
      world = step_by h.world x;
      fresh = heard_body h.world.opening h.fresh x;
      records = h.records ++ written_by h.world x;
    }

advance-is : (h : History) (v : Event) → advance h v ≡ after h (accepted h.world v.fields (length v.lent))
unfolding advance after step hear records_of accepted
advance-is h v = refl

refused : (h : History) → after h None ≡ h
unfolding after step_by heard_body written_by
refused h = rw (append-nil h.records)

pub advance-append : (h : History) (us vs : List Event) → advance_all h (us ++ vs) ≡ advance_all (advance_all h us) vs
unfolding advance_all
advance-append h [] vs = refl
advance-append h (u ∷ us) vs = advance-append (advance h u) us vs

pub advance_snoc : (h : History) (vs : List Event) (v : Event) → advance_all h (vs ++ (v ∷ [])) ≡ advance (advance_all h vs) v
unfolding advance_all
advance_snoc h vs v = advance-append h vs (v ∷ [])

-- records are written behind those that are there
unfoldable pub records_from : History → List Event → List Record
records_from h [] = []
records_from h (v ∷ vs) = records_of h.world v.fields (length v.lent) ++ records_from (advance h v) vs

pub records-behind : (h : History) (vs : List Event) → (advance_all h vs).records ≡ h.records ++ records_from h vs
unfolding advance_all records_from advance
records-behind h [] = sym (append-nil h.records)
records-behind h (v ∷ vs) = records-behind (advance h v) vs ∙ append_assoc h.records _ _

-- ---- what every history keeps

abbrev LinesOfRules : World → Type 0
LinesOfRules w = (m : Measure) (s e : ℕ) → InBook w.opening s e
    → stored w.opening w.position.lines m s e ≡ line (terms_of w.opening) (facts_of w.opening w.position.tables) m s e

record Inv (o : Opening) (h : History) : Type 0 where
  opening : h.world.opening ≡ o
  whole : Whole h.world
  agree : Agree h.world.opening h.world.position.tables h.fresh
  lines : LinesOfRules h.world
  sent : (m : Measure) (s e : ℕ) → InBook h.world.opening s e
      → total m s e h.records ≡ stored h.world.opening h.world.sent.totals m s e
  balance : (s e : ℕ) → InBook h.world.opening s e → (r : Record) → last_record s e None h.records ≡ Some r
      → balance_of r ≡ stored_line h.world.opening h.world.sent.totals s e

-- the rules' line from the tables is fresh settlement's, whichever states count
line-fresh : (counts : ℕ → Bool) (o : Opening) (t : Tables) (f : Fresh) → Agree o t f → (m : Measure) (s e : ℕ)
    → line (terms_by counts o) (facts_of o t) m s e ≡ line (terms_by counts o) (fresh_facts f) m s e
unfolding terms_by
line-fresh counts o t f a m s e =
    line_cong (terms_by counts o) (facts_of o t) (fresh_facts f) m s e (λ p k. same-agree counts o t f a p k)

inv_begin : (w : World) → opening_answer w ≡ 0 → Inv w.opening (begin (opened w))
unfolding begin opened total last_record
inv_begin w e = record {
  opening = refl;
  whole = begin-whole w (passed w e);
  agree = begin-agree w;
  lines = λ m s x b. begin-line w m s x ∙ sym
      (line-fresh _ w.opening (opened w).position.tables _ (begin-agree w) m s x
      ∙ line-nothing (terms_of w.opening) m s x b.someone);
  sent = λ m s x b. sym (begin-sent w m s x);
  balance = λ s x b r l. absurd (none_some r l);
}

-- a line after a message is what the rules give then
line_after : (w : World) (b : Body) → LinesOfRules w → (m : Measure) (s e : ℕ) → InBook w.opening s e
    → moved_line w.opening w.position.lines w.position.tables (tables_after w b) m s e ≡ line (terms_of w.opening)
    (facts_of w.opening (tables_after w b)) m s e
unfolding moved_line
line_after w b h m s e k =
    rw (h m s e k) (back_again (line (terms_of w.opening) (facts_of w.opening w.position.tables) m s e)
    (line (terms_of w.opening) (facts_of w.opening (tables_after w b)) m s e))

lines-posted : (w : World) (b : Body) → LinesOfRules w → LinesOfRules (posted w b)
unfolding posted lines_after moved_lines
lines-posted w b h m s e k = stored_lines w.opening _ m s e k ∙ line_after w b h m s e k

sent-posted : (w : World) (b : Body) (xs : List Record) (m : Measure) (s e : ℕ) → InBook w.opening s e
    → total m s e xs ≡ stored w.opening w.sent.totals m s e
    → total m s e (xs ++ written w b) ≡ stored w.opening (sent_after w b).totals m s e
unfolding written sent_after
sent-posted w b xs m s e k h = cases (is_round b)
    (λ c. rw c (total-round w xs m s e k h))
    (λ c. rw (c, append-nil xs) h)

balance-posted : (w : World) (b : Body) (xs : List Record) (s e : ℕ) → InBook w.opening s e
    → ((r : Record) → last_record s e None xs ≡ Some r → balance_of r ≡ stored_line w.opening w.sent.totals s e)
    → (r : Record) → last_record s e None (xs ++ written w b) ≡ Some r
    → balance_of r ≡ stored_line w.opening (sent_after w b).totals s e
unfolding written sent_after
balance-posted w b xs s e k h = cases (is_round b)
    (λ c. rw c (last-round w xs s e k h))
    (λ c. rw (c, append-nil xs) h)

inv_after : (o : Opening) (h : History) → Inv o h → (v : Event) (b : Body) → accepted h.world v.fields (length v.lent) ≡ Some b
    → Inv o (after h (Some b))
unfolding after step_by heard_body written_by posted tables_after
inv_after o h i v b e =
    let k = taken h.world v.fields (length v.lent) b e in
    record {
      opening = i.opening;
      whole = posted-whole h.world b i.whole k.ready k.fits;
      agree = agree-told h.world.opening h.world.position.tables h.fresh b k.ready i.agree;
      lines = lines-posted h.world b i.lines;
      sent = λ m s x c. sent-posted h.world b h.records m s x c (i.sent m s x c);
      balance = λ s x c. balance-posted h.world b h.records s x c (i.balance s x c);
    }

inv_advance : (o : Opening) (h : History) → Inv o h → (v : Event) → Inv o (advance h v)
inv_advance o h i v = rw (advance-is h v) (go (accepted h.world v.fields (length v.lent)) refl)
  where
    go : (x : Option Body) → accepted h.world v.fields (length v.lent) ≡ x → Inv o (after h x)
    go None e = subst (Inv o) (sym (refused h)) i
    go (Some b) e = inv_after o h i v b e

inv_all : (o : Opening) (h : History) (vs : List Event) → Inv o h → Inv o (advance_all h vs)
unfolding advance_all
inv_all o h [] i = i
inv_all o h (v ∷ vs) i = inv_all o (advance h v) vs (inv_advance o h i v)

-- ---- the claim's parts, of any history that keeps that

limits_of : (w : World) → Whole w → Limits w.opening
unfolding question2
limits_of w c = limits w.opening (both (within_limits w.opening) _ c.limited).0

tables_of : (w : World) → Whole w → TablesRight w.opening w.position.tables
unfolding question5
tables_of w c = tables_parts w.opening w.position.tables (both (tables_right w.opening w.position.tables) _ c.right).0

element_of_lem : (w : World) → Whole w → (e : ℕ) → e < w.opening.elements → element_right w.opening e ≡ true
unfolding question4
element_of_lem w c e k = all-at _ _ c.elements e k

-- whoever holds a point is a supplier of the book, or nobody
holder-high : (o : Opening) (t : Tables) (f : Fresh) → Agree o t f → TablesRight o t → (p d : ℕ) → (fresh_facts f).holder p d ≤ o.suppliers
unfolding fresh_facts holders_right
holder-high o t f a r p d =
    latest-high (f.holder p) o.suppliers d
    (λ i v e. recorded_high holder_size 0 o.suppliers o (rows_of t.holders) p i v
    (table_each (earlier holder_size) (value_right holder_size 0 o.suppliers o) t.holders r.holders) (a.holder p i ∙ e))

inside : (m : Measure) → reached_limit m ≤ line_limit m
unfolding reached_limit line_limit
inside Measure.quantity = omega arith
inside Measure.amount = omega arith

one_false : (a b : Bool) → b ≡ true → a && b ≡ false → a ≡ false
one_false true b h e = sym h ∙ e
one_false false b h e = refl

module _ (h : History) (o : Opening) (i : Inv o h) where
  -- a stored line is fresh settlement's
  stored-fresh : (m : Measure) (s e : ℕ) → InBook h.world.opening s e
      → stored h.world.opening h.world.position.lines m s e ≡ line (terms_of h.world.opening) (fresh_facts h.fresh) m s e
  stored-fresh m s e b = i.lines m s e b ∙ line-fresh _ h.world.opening h.world.position.tables h.fresh i.agree m s e

  -- a line query answers the sums of the book's own tables, and so those of fresh settlement
  query_own : (s e : ℕ) → InBook h.world.opening s e → line_query h.world s e ≡ own_line h.world s e
  query_own s e b = query_stored h.world i.whole s e b
      ∙ ap₂ line_named (i.lines Measure.quantity s e b) (i.lines Measure.amount s e b)

  query_fresh : (s e : ℕ) → InBook h.world.opening s e
      → line_query h.world s e ≡ line_given h.world.opening (fresh_facts h.fresh) s e
  query_fresh s e b = query_stored h.world i.whole s e b
      ∙ ap₂ line_named (stored-fresh Measure.quantity s e b) (stored-fresh Measure.amount s e b)

  named-fresh : (m : Measure) (s e : ℕ) → InBook h.world.opening s e
      → named m (line_query h.world s e) ≡ line (terms_of h.world.opening) (fresh_facts h.fresh) m s e
  named-fresh m s e b = named-stored h.world i.whole s e b m ∙ stored-fresh m s e b

  totals_of : (m : Measure) (e : ℕ) → e < h.world.opening.elements
      → sum_to (λ s. named m (line_query h.world (suc s) e)) h.world.opening.suppliers
      ≡ sum_to (λ p. sum_to (λ d. owed_by_holder (terms_of h.world.opening) (fresh_facts h.fresh) m p e
      (month_first h.world.opening + d)) (month_days h.world.opening)) h.world.opening.points
  unfolding terms_by
  totals_of m e k =
      sum_cong _ _ h.world.opening.suppliers
      (λ s l. named-fresh m (suc s) e (record { someone = omega arith; supplier = l; element = k }))
      ∙ lines-total (terms_of h.world.opening) (fresh_facts h.fresh) m e h.world.opening.suppliers
      (λ p d a b. holder-high h.world.opening h.world.position.tables h.fresh i.agree (tables_of h.world i.whole) p _)

  small_of : (m : Measure) (s e : ℕ) → InBook h.world.opening s e → nat_abs (named m (line_query h.world s e)) ≤ reached_limit m
  small_of m s e b =
      rw (named-stored h.world i.whole s e b m, i.lines m s e b)
      (line_small (terms_of h.world.opening) (facts_of h.world.opening h.world.position.tables) e
      (bounded h.world.opening e (element_of_lem h.world i.whole e b.element) _ (limits_of h.world i.whole)
      h.world.position.tables (tables_of h.world i.whole)) m s)

  -- what the ledger is sent: the sum of fresh settlement's lines, and no more than 64 times what a line is at most
  ledger_fresh_lem : (s owner : ℕ) → 1 ≤ s → s ≤ h.world.opening.suppliers
      → ledger_sum h.world s owner
      ≡ owned_sum h.world.opening owner (λ e. line (terms_of h.world.opening) (fresh_facts h.fresh) Measure.amount s e)
  unfolding ledger_sum owned_sum
  ledger_fresh_lem s owner a b = sum_cong _ _ h.world.opening.elements
      (λ e l. rw (named-fresh Measure.amount s e (record { someone = a; supplier = b; element = l })))

  ledger_small : (s owner : ℕ) → 1 ≤ s → s ≤ h.world.opening.suppliers
      → nat_abs (ledger_sum h.world s owner) ≤ h.world.opening.elements * reached_limit Measure.amount
  unfolding ledger_sum owned_sum
  ledger_small s owner a b = sum_abs _ (reached_limit Measure.amount) h.world.opening.elements
      (λ e l. cases (eqb (owner_of h.world.opening e) owner)
      (λ t. rw t (small_of Measure.amount s e (record { someone = a; supplier = b; element = l })))
      (λ t. rw t (omega arith)))

  ledger_fits_lem : (s owner : ℕ) → 1 ≤ s → s ≤ h.world.opening.suppliers → fits (ledger_amount h.world s owner) ≡ true
  unfolding fits reached_limit
  ledger_fits_lem s owner a b =
      let k = (limits_of h.world i.whole).elements in
      let n = ledger_small s owner a b in
      let e = nearest_abs (ledger_sum h.world s owner) ore in
      lt-ltb (nat_abs (ledger_amount h.world s owner)) (10 ^ digit_count) (omega arith)

  -- lines never leave their bounds, so 17 is said for the rows' sake
  lines_fit : (b : Body) → Ready h.world.opening h.world.position.tables b
      → lines_right h.world.opening (lines_after h.world b) ≡ true
  unfolding lines_after moved_lines
  lines_fit b r = lines-right h.world.opening _ (λ m s e k. rw (line_after h.world b i.lines m s e k)
      (le_trans (line_small (terms_of h.world.opening) (facts_of h.world.opening (tables_after h.world b)) e
      (bounded h.world.opening e (element_of_lem h.world i.whole e k.element) _ (limits_of h.world i.whole)
      (tables_after h.world b)
      (unfold tables_after in told-right h.world.opening h.world.position.tables b r)) m s) (inside m)))

  full_of : (v : Event) (b : Message) → understood h.world.opening.suppliers v.fields ≡ Some b
      → answer h.world v.fields (length v.lent) ≡ 17 → rows_fit (tables_after h.world b.body) ≡ false
  unfolding question17
  full_of v b u e =
      let k = behind h.world v.fields (length v.lent) 17 (λ n x y z. omega arith) e in
      let q : k.message ≡ b = let z : Some k.message ≡ Some b = sym k.is ∙ u in cc in
      let f = refused_17 h.world v.fields (length v.lent) e k in
      subst (λ (m : Message). rows_fit (tables_after h.world m.body) ≡ false) q
      (one_false (rows_fit (tables_after h.world k.message.body)) _ (lines_fit k.message.body k.ready) f)

-- ---- and of one event more

-- an accepted message that a supplier holds the point of on no day, before or after, changes no line of the supplier's
module _ (h : History) (o : Opening) (i : Inv o h) (v : Event) (s e : ℕ) (b : InBook h.world.opening s e)
    (before : Holds h.world.opening h.fresh s v.fields.point → ⊥) where
  local-line : (counts : ℕ → Bool) (x : Body) → accepted h.world v.fields (length v.lent) ≡ Some x
      → (Holds h.world.opening (heard h.world.opening h.fresh x) s v.fields.point → ⊥)
      → (m : Measure) → line (terms_by counts h.world.opening) (fresh_facts (heard h.world.opening h.fresh x)) m s e
      ≡ line (terms_by counts h.world.opening) (fresh_facts h.fresh) m s e
  unfolding terms_by
  local-line counts x c z m =
      let t = terms_by counts h.world.opening in
      let k = taken h.world v.fields (length v.lent) x c in
      let now = heard h.world.opening h.fresh x in
      sym (line_but t (fresh_facts h.fresh) (fresh_facts now) m s e v.fields.point
      (λ p l n. same-unmoved t h.fresh now p (heard_other h.world.opening h.fresh x p
      (λ q. n (about h.world.opening.suppliers v.fields k.message k.is p (ap point_of k.body ∙ q)))))
      (point_line_none t (fresh_facts h.fresh) m s v.fields.point e (λ d l q. before record { day = d; in_month = l; holder = q }))
      (point_line_none t (fresh_facts now) m s v.fields.point e (λ d l q. z record { day = d; in_month = l; holder = q })))

  local-after : (x : Option Body) → accepted h.world v.fields (length v.lent) ≡ x
      → (Holds h.world.opening (after h x).fresh s v.fields.point → ⊥)
      → line_query (after h x).world s e ≡ line_query h.world s e
  unfolding after step_by heard_body posted
  local-after None c z = refl
  local-after (Some x) c z =
      query_fresh (after h (Some x)) o (inv_after o h i v x c) s e b
      ∙ ap₂ line_named (local-line _ x c z Measure.quantity) (local-line _ x c z Measure.amount)
      ∙ sym (query_fresh h o i s e b)

  local_of : (Holds h.world.opening (advance h v).fresh s v.fields.point → ⊥)
      → line_query (advance h v).world s e ≡ line_query h.world s e
  local_of z = rw (advance-is h v) (local-after (accepted h.world v.fields (length v.lent)) refl (rw (advance-is h v) at z))

-- an accepted message of kind 8 is a round
round-accepted : (w : World) (v : Event) → v.fields.kind ≡ 8 → answer w v.fields (length v.lent) ≡ 0
    → accepted w v.fields (length v.lent) ≡ Some Round
unfolding accepted body_in
round-accepted w v k a =
    let c = behind w v.fields (length v.lent) 0 (λ n x y z. omega arith) a in
    rw (a, c.is, round-body w.opening.suppliers v.fields k c.message c.is)

-- after an accepted round the records add up to the line
round-total : (h : History) (o : Opening) → Inv o h → Inv o (after h (Some Round)) → (m : Measure) (s e : ℕ)
    → InBook h.world.opening s e
    → total m s e (after h (Some Round)).records ≡ named m (line_query (after h (Some Round)).world s e)
unfolding after step_by posted sent_after is_round tables_after told
round-total h o i j m s e b =
    j.sent m s e b ∙ i.lines m s e b ∙ sym (j.lines m s e b) ∙ sym (named-stored (after h (Some Round)).world j.whole s e b m)

rounds_of : (h : History) (o : Opening) → Inv o h → (v : Event) → accepted h.world v.fields (length v.lent) ≡ Some Round
    → (m : Measure) (s e : ℕ) → InBook h.world.opening s e
    → total m s e (advance h v).records ≡ named m (line_query (advance h v).world s e)
rounds_of h o i v c m s e b = rw (advance-is h v, c) (round-total h o i (inv_after o h i v Round c) m s e b)

-- the last balance of a line is what was sent, and so the sum of the records
balance_of_lem : (h : History) (o : Opening) → Inv o h → (s e : ℕ) → InBook h.world.opening s e → LastBalance s e h.records
balance_of_lem h o i s e b r l =
    i.balance s e b r l ∙ ap₂ line_named (sym (i.sent Measure.quantity s e b)) (sym (i.sent Measure.amount s e b))

-- a round moves no line: what was stored before it is what the line query answers after it
pub round-line : (w : World) → Whole (posted w Round) → (s e : ℕ) → InBook w.opening s e
    → stored_line w.opening w.position.lines s e ≡ line_query (posted w Round) s e
unfolding posted lines_after moved_lines moved_line tables_after told
round-line w c s e b =
    ap₂ line_named (same Measure.quantity) (same Measure.amount) ∙ sym (query_stored (posted w Round) c s e b)
  where
    same : (m : Measure) → stored w.opening w.position.lines m s e
        ≡ stored w.opening (posted w Round).position.lines m s e
    same m = sym (stored_lines w.opening _ m s e b
        ∙ rw (less_itself (line (terms_of w.opening) (facts_of w.opening w.position.tables) m s e), +ℤ_idr))

-- what was sent is then the line, and so the last balance is
round-balance : (h : History) (o : Opening) → Inv o (after h (Some Round)) → (s e : ℕ) → InBook h.world.opening s e
    → LastStands s e (after h (Some Round)).records (after h (Some Round)).world
unfolding after step_by posted sent_after is_round
round-balance h o j s e b r l = j.balance s e b r l ∙ round-line h.world j.whole s e b

balance-at : (h : History) (o : Opening) → Inv o h → (v : Event) → accepted h.world v.fields (length v.lent) ≡ Some Round
    → (s e : ℕ) → InBook h.world.opening s e → LastStands s e (advance h v).records (advance h v).world
balance-at h o i v c s e b = rw (advance-is h v, c) (round-balance h o (inv_after o h i v Round c) s e b)

is-round : (b : Body) → is_round b ≡ true → b ≡ Round
unfolding is_round
is-round (Link p e d q) h = absurd (false≢true h)
is-round (Stop p e d) h = absurd (false≢true h)
is-round (Quantity p e d q) h = absurd (false≢true h)
is-round (Holder p d v) h = absurd (false≢true h)
is-round (State p d v) h = absurd (false≢true h)
is-round (Reading p d v n) h = absurd (false≢true h)
is-round (Block p v) h = absurd (false≢true h)
is-round Round h = refl

-- a message that writes records is a round
round-written : (w : World) (x : Option Body) (r : Record) → Memᴰ r (written_by w x) → x ≡ Some Round
unfolding written_by written
round-written w None r m = absurd (Memᴰ.not-nil m)
round-written w (Some b) r m = cases (is_round b)
    (λ t. ap Some (is-round b t))
    (λ t. absurd (Memᴰ.not-nil (rw t at m)))

-- Each record that a message writes carries what the line query answers after it, of whatever book: one that is not well formed refuses.
pub record_carries : (w : World) (f : Fields) (room : ℕ) (r : Record) → Memᴰ r (records_of w f room)
    → balance_of r ≡ line_query (step w f room) r.supplier r.element
unfolding records_of written_by written is_round step step_by
record_carries w f room r m =
    let c = round-written w (accepted w f room) r m in
    let k = taken w f room Round c in
    let b = each-balance w r (rw c at m) in
    rw c (b.1 ∙ round-line w (posted-whole w Round k.whole k.ready k.fits) r.supplier r.element b.0)

-- ---- demand 3

module _ (w : World) (a : opening_answer w ≡ 0) (vs : List Event) where
  abbrev x : History
  x = advance_all (begin (opened w)) vs

  i : Inv w.opening x
  i = inv_all w.opening (begin (opened w)) vs (inv_begin w a)

  snoc : (v : Event) → advance_all (begin (opened w)) (vs ++ (v ∷ [])) ≡ advance x v
  snoc v = advance_snoc (begin (opened w)) vs v

  -- whatever message comes next
  module _ (v : Event) where
    local-next : (s e : ℕ) → InBook w.opening s e
        → (Holds w.opening x.fresh s v.fields.point → ⊥)
        → (Holds w.opening (reached w (vs ++ (v ∷ []))).fresh s v.fields.point → ⊥)
        → line_query (reached w (vs ++ (v ∷ []))).world s e ≡ line_query x.world s e
    local-next = subst (λ o. (s e : ℕ) → InBook o s e → (Holds o x.fresh s v.fields.point → ⊥)
        → (Holds o (reached w (vs ++ (v ∷ []))).fresh s v.fields.point → ⊥)
        → line_query (reached w (vs ++ (v ∷ []))).world s e ≡ line_query x.world s e)
        i.opening (λ s e b n r. rw (snoc v) (local_of x w.opening i v s e b n (rw (snoc v) at r)))

    rounds-next : v.fields.kind ≡ 8 → answer x.world v.fields (length v.lent) ≡ 0
        → (m : Measure) (s e : ℕ) → InBook w.opening s e
        → total m s e (reached w (vs ++ (v ∷ []))).records ≡ named m (line_query (reached w (vs ++ (v ∷ []))).world s e)
    rounds-next k q = subst (λ o. (m : Measure) (s e : ℕ) → InBook o s e
        → total m s e (reached w (vs ++ (v ∷ []))).records ≡ named m (line_query (reached w (vs ++ (v ∷ []))).world s e))
        i.opening (λ m s e b. rw (snoc v) (rounds_of x w.opening i v (round-accepted x.world v k q) m s e b))

    balance-next : v.fields.kind ≡ 8 → answer x.world v.fields (length v.lent) ≡ 0
        → (s e : ℕ) → InBook w.opening s e → LastStands s e (reached w (vs ++ (v ∷ []))).records (reached w (vs ++ (v ∷ []))).world
    balance-next k q = subst (λ o. (s e : ℕ) → InBook o s e
        → LastStands s e (reached w (vs ++ (v ∷ []))).records (reached w (vs ++ (v ∷ []))).world)
        i.opening (λ s e b. rw (snoc v) (balance-at x w.opening i v (round-accepted x.world v k q) s e b))

    each_next : (r : Record) → Memᴰ r (records_of x.world v.fields (length v.lent))
        → balance_of r ≡ line_query (reached w (vs ++ (v ∷ []))).world r.supplier r.element
    unfolding advance
    each_next r m = rw (snoc v) (record_carries x.world v.fields (length v.lent) r m)

    full-next : (b : Message) → understood w.opening.suppliers v.fields ≡ Some b
        → answer x.world v.fields (length v.lent) ≡ 17 → rows_fit (tables_after x.world b.body) ≡ false
    full-next = subst (λ (o : Opening). (b : Message) → understood o.suppliers v.fields ≡ Some b
        → answer x.world v.fields (length v.lent) ≡ 17 → rows_fit (tables_after x.world b.body) ≡ false)
        i.opening (full_of x w.opening i v)

-- the opening stays
pub reached-opening : (w : World) → opening_answer w ≡ 0 → (vs : List Event) → (reached w vs).world.opening ≡ w.opening
reached-opening w a vs = (i w a vs).opening

-- a message of the list is the next after those before it
module _ (w : World) (a : opening_answer w ≡ 0) (vs : List Event) where
  pub kept : Kept w vs
  kept =
      let h = x w a vs in
      let j = i w a vs in
      record {
        fresh = subst (λ o. (s e : ℕ) → InBook o s e → line_query h.world s e ≡ line_given o (fresh_facts h.fresh) s e)
            j.opening (query_fresh h w.opening j);
        sums = λ s e b. query_own h w.opening j s e (subst (λ o. InBook o s e) (sym j.opening) b);
        local = λ y. local-next w a y.before y.message;
        rounds = λ y. rounds-next w a y.before y.message;
        last_balance = subst (λ o. (s e : ℕ) → InBook o s e → LastBalance s e h.records) j.opening (balance_of_lem h w.opening j);
        round_balance = λ y. balance-next w a y.before y.message;
        each_balance = λ y. each_next w a y.before y.message;
        totals = subst (λ (o : Opening). (m : Measure) (e : ℕ) → e < o.elements
            → sum_to (λ s. named m (line_query h.world (suc s) e)) o.suppliers
            ≡ sum_to (λ p. sum_to (λ d. owed_by_holder (terms_of o) (fresh_facts h.fresh) m p e (month_first o + d)) (month_days o))
            o.points)
            j.opening (totals_of h w.opening j);
        whole = j.whole;
        small = subst (λ o. (m : Measure) (s e : ℕ) → InBook o s e → nat_abs (named m (line_query h.world s e)) ≤ reached_limit m)
            j.opening (small_of h w.opening j);
        full = λ y. full-next w a y.before y.message;
        ledger_fits = subst (λ (o : Opening). (s owner : ℕ) → 1 ≤ s → s ≤ o.suppliers → fits (ledger_amount h.world s owner) ≡ true)
            j.opening (ledger_fits_lem h w.opening j);
        ledger_fresh = subst (λ (o : Opening). (s owner : ℕ) → 1 ≤ s → s ≤ o.suppliers → ledger_sum h.world s owner
            ≡ owned_sum o owner (λ e. line (terms_of o) (fresh_facts h.fresh) Measure.amount s e))
            j.opening (ledger_fresh_lem h w.opening j);
      }

pub demand3 : Demand3
demand3 w a vs = kept w a vs
