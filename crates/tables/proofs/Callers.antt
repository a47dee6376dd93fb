-- Laws for callers: what a change leaves, how many rows it leaves, and what a new dated value says of each day.
-- What a day says after a period is put in, stopped or split is in the rules' `Changes`.
use Prim.Native.Nat.{ℕ, zero, suc, ◌+◌, ◌*◌, ◌/◌, ◌≤◌, ◌<◌, min, zero-le, suc-le-suc}
use mathlib.Core.Path.{◌≡◌, refl, sym, ap, ◌∙◌}
use mathlib.Core.Bool.{true, false, ◌&&◌, cond, false≢true, and-false}
use mathlib.Core.List.{List, [], ◌∷◌}
use Rattle.std.specs.Prelude.{Option, None, Some}
use lib.Dec.{ltb, leb, eqb}
use lib.ListN.{length}
use native.Mathlib.Omega.{arith}
use borrow.Author.Tests.{eqb-true, eq-eqb}
use Rattle.rules.specs.Sizes.{day_room, end_of_days}
use Rattle.rules.specs.Basics.{latest, or_else}
use Rattle.rules.specs.Fresh.{here}
use Rattle.rules.specs.Rows.{period_first, period_end, of_pair, covers, starts_on, insert_row, stop_rows, split_rows}
use Rattle.rules.specs.Rows.{pack_value, value_point}
use Rattle.rules.specs.Rows.{value_first, recorded_on, record_row}
use Rattle.rules.specs.World.{Table, table_of}
use Rattle.rules.proofs.Tests.{tests, cases, both}
use Rattle.rules.proofs.Ranges.{latest_cong}
use Rattle.rules.proofs.Words.{pair_true, pair_is, key_pack}
use Rattle.rules.proofs.Clauses.{dated, starts_cons, insert_nil, insert_cons, stop_nil, stop_cons, split_cons, recorded_nil, recorded_cons}
use Rattle.rules.proofs.Clauses.{record_nil, record_cons}
use Rattle.rules.proofs.Values.{recorded_pack}
use Rattle.rules.specs.Order.{Run, done, next, linked_in}
use Rattle.rules.proofs.Runs.{linked_nil, linked_cons, linked_from, starts_from, covered}
use Rattle.tables.specs.Order.{Rising, nil, row}
use Rattle.tables.specs.Search.{next_recorded, is_given, Changed}
use Rattle.tables.proofs.Order.{div_le_div}
use Rattle.tables.proofs.Values.{key_parts, recorded_later, not_dated}

-- ---- what a change leaves

pub changed_table : {rows words : List ℕ} {used : ℕ} → Changed rows words used
    → ◌≡◌ {A = Table} (record { used = used; words = words }) (table_of rows)
unfolding table_of
changed_table c = rw (c.count, c.is)

-- ---- how many rows there are then

pub length_insert : (w : ℕ) (ws : List ℕ) → length (insert_row w ws) ≡ suc (length ws)
length_insert w [] = rw insert_nil
length_insert w (x ∷ xs) = rw insert_cons (cases (ltb w x) (λ t. rw t) (λ t. rw t (ap suc (length_insert w xs))))

-- an insertion, with one row more in use
pub inserted : (w : ℕ) (rows words : List ℕ) (used : ℕ) → used ≡ length rows → words ≡ (table_of (insert_row w rows)).words
    → Changed (insert_row w rows) words (used + 1)
inserted w rows words used e h = let l = length_insert w rows in record { is = h; count = omega arith }

pub length_stop : (p e d : ℕ) (ws : List ℕ) → length (stop_rows p e d ws) ≤ length ws
length_stop p e d [] = rw stop_nil zero-le
length_stop p e d (w ∷ ws) = let ih = length_stop p e d ws in rw stop_cons (cases (of_pair p e w && leb d (period_first w))
    (λ t. rw t (omega arith))
    (λ t. rw t (cases (of_pair p e w && ltb d (period_end w)) (λ u. rw u (suc-le-suc ih)) (λ u. rw u (suc-le-suc ih)))))

-- one more, unless a period starts that day
pub length_split : (p e d q : ℕ) {k : ℕ} {ws : List ℕ} → Run k ws → linked_in ws p e d ≡ true
    → length (split_rows p e d q ws) ≡ cond (starts_on ws p e d) (length ws) (suc (length ws))
length_split p e d q done l = absurd (false≢true (sym (linked_nil p e d) ∙ l))
length_split p e d q (next {w = w} {ws = ws} i j c r) l = rw (split_cons, starts_cons) (cases (covers p e d w)
    (λ t. let m = covered p e d w t in
    let o = pair_is p e w m.0 m.1 in
    let s : starts_on ws p e d ≡ false = cases (starts_on ws p e d)
    (λ v. let f = starts_from p e d r v in absurd (omega arith))
    (λ v. v) in
    cases (eqb (period_first w) d) (λ v. rw (t, v, o)) (λ v. rw (t, v, o, s)))
    (λ t. let l' : linked_in ws p e d ≡ true = simp (linked_cons, t) at l in
    let f = linked_from p e d r l' in
    let n : (of_pair p e w && eqb (period_first w) d) ≡ false = cases (of_pair p e w)
    (λ o. let m = pair_true p e w o in let v : eqb (period_first w) d ≡ false = omega (arith, tests) in rw (o, v))
    (λ o. rw o) in
    rw (t, n) (ap suc (length_split p e d q r l') ∙ (cases (starts_on ws p e d) (λ v. rw v) (λ v. rw v)))))

-- ---- dated values

given-suc : (o : Option ℕ) (n : ℕ) → suc (cond (is_given o) n (suc n)) ≡ cond (is_given o) (suc n) (suc (suc n))
unfolding is_given
given-suc None n = refl
given-suc (Some v) n = refl

module _ (size : ℕ) where
  is_dated : (p d w : ℕ) → d < day_room → w / size ≡ p * day_room + d → dated size p d w ≡ true
  is_dated p d w h e =
      let k = key_parts size w in
      let a : value_point size w ≡ p = omega arith in
      let b : value_first size w ≡ d = omega arith in
      rw (eq-eqb _ _ a, eq-eqb _ _ b)

  -- one more, unless one is recorded for that point and day
  pub length_record : 0 < size → (p a v : ℕ) → a < day_room → v < size → {k : ℕ} {ws : List ℕ} → Rising (λ w. w / size) k ws
      → length (record_row size (pack_value size p a v) ws) ≡ cond (is_given (recorded_on size ws p a)) (length ws) (suc (length ws))
  unfolding is_given
  length_record pos p a v ha hv nil = rw (record_nil, recorded_nil)
  length_record pos p a v ha hv (row {w = x} {ws = xs} i m) =
      let w = pack_value size p a v in
      let e = key_pack size p a v ha hv in
      rw (record_cons, recorded_cons) (cases (eqb (x / size) (w / size))
      (λ t. let d = is_dated p a x ha (eqb-true _ _ t ∙ e) in rw (t, d))
      (λ t. let d = not_dated size p a x (λ z. omega (arith, tests)) in
      cases (ltb w x)
      (λ u. let z = div_le_div size pos w x (omega (arith, tests)) in
      rw (t, u, d, recorded_later size p a m (omega (arith, tests))))
      (λ u. rw (t, u, d) (ap suc (length_record pos p a v ha hv m) ∙ given-suc (recorded_on size xs p a) (length xs)))))

  -- between the day and the next recorded one nothing is recorded, and there something is
  pub next-clear : (p a d : ℕ) (ws : List ℕ) → a < d → d < next_recorded size ws p a → recorded_on size ws p d ≡ None
  unfolding next_recorded
  next-clear p a d [] h l = recorded_nil size p d
  next-clear p a d (w ∷ ws) h l = cases (eqb (value_point size w) p && ltb a (value_first size w))
      (λ t. let l' : d < min (value_first size w) (next_recorded size ws p a) = rw t at l in
      let n : dated size p d w ≡ false = cases (eqb (value_first size w) d) (λ u. absurd (omega (arith, tests))) (λ u. rw (u, and-false)) in
      rw (recorded_cons, n) (next-clear p a d ws h (omega arith)))
      (λ t. let l' : d < next_recorded size ws p a = rw t at l in
      let n : dated size p d w ≡ false = cases (dated size p d w)
      (λ u. let k = both (eqb (value_point size w) p) (eqb (value_first size w) d) u in
      let z : ltb a (value_first size w) ≡ true = omega (arith, tests) in
      let y : false ≡ true = sym t ∙ rw (k.0, z) in absurd (false≢true y))
      (λ u. u) in
      rw (recorded_cons, n) (next-clear p a d ws h l'))

  next-given : (p a : ℕ) (ws : List ℕ) → next_recorded size ws p a < end_of_days
      → is_given (recorded_on size ws p (next_recorded size ws p a)) ≡ true
  unfolding next_recorded is_given
  next-given p a [] l = absurd (omega arith)
  next-given p a (w ∷ ws) l = cases (eqb (value_point size w) p && ltb a (value_first size w))
      (λ t. let l' : min (value_first size w) (next_recorded size ws p a) < end_of_days = rw t at l in
      let k = both (eqb (value_point size w) p) (ltb a (value_first size w)) t in
      rw (t, recorded_cons) (cases (eqb (value_first size w) (min (value_first size w) (next_recorded size ws p a)))
      (λ u. rw (k.0, u))
      (λ u. let e : min (value_first size w) (next_recorded size ws p a) ≡ next_recorded size ws p a = omega (arith, tests) in
      rw (u, and-false, e) (next-given p a ws (omega (arith, tests))))))
      (λ t. let l' : next_recorded size ws p a < end_of_days = rw t at l in
      rw (t, recorded_cons) (cases (dated size p (next_recorded size ws p a) w)
      (λ u. rw u)
      (λ u. rw u (next-given p a ws l'))))

  next-after : (p a : ℕ) (ws : List ℕ) → a < end_of_days → a < next_recorded size ws p a
  unfolding next_recorded
  next-after p a [] h = h
  next-after p a (w ∷ ws) h = let ih = next-after p a ws h in cases (eqb (value_point size w) p && ltb a (value_first size w))
      (λ t. let k = both (eqb (value_point size w) p) (ltb a (value_first size w)) t in rw t (omega (arith, tests)))
      (λ t. rw t ih)

-- a value put in on day a rules up to the day n on which the next one is recorded
module _ (f : ℕ → Option ℕ) (a v n : ℕ) (after : a < n) (clear : (d : ℕ) → a < d → d < n → f d ≡ None)
    (at : n < end_of_days → is_given (f n) ≡ true) where
  over : (o : Option ℕ) (x y : ℕ) → is_given o ≡ true → or_else o x ≡ or_else o y
  unfolding is_given or_else
  over None x y h = absurd (false≢true h)
  over (Some u) x y h = refl

  latest_put : (d : ℕ) → d < end_of_days → latest (λ i. cond (eqb i a) (Some v) (f i)) d ≡ cond (leb a d && ltb d n) v (latest f d)
  unfolding latest or_else
  latest_put zero h = cases (eqb 0 a)
      (λ t. let x : leb a 0 ≡ true = omega (arith, tests) in let y : ltb 0 n ≡ true = omega (arith, tests) in rw (t, x, y))
      (λ t. let x : leb a 0 ≡ false = omega (arith, tests) in rw (t, x))
  latest_put (suc d) h = cases (eqb (suc d) a)
      (λ t. let x : leb a (suc d) ≡ true = omega (arith, tests) in let y : ltb (suc d) n ≡ true = omega (arith, tests) in rw (t, x, y))
      (λ t. let ih = latest_put d (omega arith) in cases (leb a d)
      (λ u. let x : leb a (suc d) ≡ true = omega (arith, tests) in cases (ltb (suc d) n)
      (λ y. let z : ltb d n ≡ true = omega (arith, tests) in
      rw (t, x, y, clear (suc d) (omega (arith, tests)) (omega (arith, tests)), ih, u, z))
      (λ y. cases (eqb n (suc d))
      (λ e. let g : is_given (f (suc d)) ≡ true = rw (eqb-true n (suc d) e) at (at (omega (arith, tests))) in
      rw (t, x, y) (over (f (suc d)) _ _ g))
      (λ e. let z : ltb d n ≡ false = omega (arith, tests) in rw (t, x, y, ih, u, z))))
      (λ u. let x : leb a (suc d) ≡ false = omega (arith, tests) in rw (t, x, ih, u)))

-- the new value from its day up to the next recorded one, the old ones elsewhere
pub latest_record : (size p a v : ℕ) → a < end_of_days → v < size → (ws : List ℕ) (d : ℕ) → d < end_of_days
    → latest (recorded_on size (record_row size (pack_value size p a v) ws) p) d
    ≡ cond (leb a d && ltb d (next_recorded size ws p a)) v (latest (recorded_on size ws p) d)
unfolding here
latest_record size p a v ha hv ws d h =
    latest_cong _ (λ i. cond (eqb i a) (Some v) (recorded_on size ws p i)) d
    (λ i. recorded_pack size p a v (omega arith) hv ws p i ∙ rw (eq-eqb p p refl))
    ∙ latest_put (recorded_on size ws p) a v (next_recorded size ws p a) (next-after size p a ws ha)
    (λ i k l. next-clear size p a i ws k l) (next-given size p a ws) d h
