-- Periods that question 5 passes, as facts: each right by itself, and all of them a run.
use Prim.Native.Nat.{ℕ, suc, ◌≤◌, ◌<◌, min}
use mathlib.Core.Path.{◌≡◌, refl}
use mathlib.Core.Bool.{Bool, true, false, not, ◌&&◌, ◌||◌}
use mathlib.Core.List.{List, [], ◌∷◌}
use lib.Dec.{leb, ltb, eqb}
use borrow.Author.Tests.{eqb-true, eq-eqb, le-leb, leb-true, lt-ltb, ltb-true}
use native.Mathlib.Omega.{arith}
use native.Mathlib.Nat.{le_refl}
use Rattle.rules.specs.Sizes.{day_room, element_room, end_of_days, most_elements, most_quantity, quantity_room}
use Rattle.rules.specs.Rows.{pack_period, period_point, period_element, period_first, period_end, period_quantity, of_pair, covers}
use Rattle.rules.specs.Rows.{next_start, insert_row, stop_rows, split_rows}
use Rattle.rules.specs.World.{Opening, kind_of}
use Rattle.rules.specs.Basics.{within, chained, all_in}
use Rattle.rules.specs.WellFormed.{period_right, apart}
use Rattle.rules.proofs.Tests.{tests, cases, both, neither}
use Rattle.rules.specs.Order.{from, upto, Run, done, next, linked_in}
use Rattle.rules.proofs.Words.{first_lt, end_lt, quantity_lt, element_lt, point_pack, element_pack, first_pack, end_pack}
use Rattle.rules.proofs.Words.{quantity_pack, pair_true, pair_false, from_is, from_lt, lt_from, covers-is}
use Rattle.rules.proofs.Clauses.{next-cons, insert_nil, insert_cons, stop_nil, stop_cons, split_nil, split_cons}
use Rattle.rules.proofs.Runs.{weaken, linked_cons, covered}

pub record Right (op : Opening) (r : ℕ) : Type 0 where
  pub point : period_point r < op.points
  pub element : period_element r < op.elements
  pub days : period_first r < period_end r
  pub last : period_end r ≤ end_of_days
  pub some : 1 ≤ period_quantity r
  pub most : period_quantity r ≤ most_quantity
  pub fee : kind_of op (period_element r) ≡ 2 → period_end r ≡ suc (period_first r)
  pub tariff : kind_of op (period_element r) ≡ 3 → period_quantity r ≡ 1

if : (a b : ℕ) (t : Bool) → (not (eqb a b) || t) ≡ true → a ≡ b → t ≡ true
if a b t h e = rw (eq-eqb a b e) at h

if_is : (a b c d : ℕ) → (a ≡ b → c ≡ d) → (not (eqb a b) || eqb c d) ≡ true
if_is a b c d f = cases (eqb a b)
    (λ t. rw (t, eq-eqb c d (f (eqb-true a b t))))
    (λ t. rw t)

pub right_of : (op : Opening) (r : ℕ) → period_right op r ≡ true → Right op r
unfolding period_right within
right_of op r h =
    let h1 = both (ltb (period_point r) op.points) _ h in
    let h2 = both (ltb (period_element r) op.elements) _ h1.1 in
    let h3 = both (ltb (period_first r) (period_end r)) _ h2.1 in
    let h4 = both (leb (period_end r) end_of_days) _ h3.1 in
    let h5 = both (leb 1 (period_quantity r) && leb (period_quantity r) most_quantity) _ h4.1 in
    let h6 = both (leb 1 (period_quantity r)) (leb (period_quantity r) most_quantity) h5.0 in
    let h7 = both (not (eqb (kind_of op (period_element r)) 2) || eqb (period_end r) (suc (period_first r)))
    (not (eqb (kind_of op (period_element r)) 3) || eqb (period_quantity r) 1) h5.1 in
    record {
      point = ltb-true _ _ h1.0;
      element = ltb-true _ _ h2.0;
      days = ltb-true _ _ h3.0;
      last = leb-true _ _ h4.0;
      some = leb-true _ _ h6.0;
      most = leb-true _ _ h6.1;
      fee = λ k. eqb-true _ _ (if (kind_of op (period_element r)) 2 _ h7.0 k);
      tariff = λ k. eqb-true _ _ (if (kind_of op (period_element r)) 3 _ h7.1 k);
    }

pub is_right : (op : Opening) (r : ℕ) → Right op r → period_right op r ≡ true
unfolding period_right within
is_right op r h = rw (
  lt-ltb _ _ h.point,
  lt-ltb _ _ h.element,
  lt-ltb _ _ h.days,
  le-leb _ _ h.last,
  le-leb _ _ h.some,
  le-leb _ _ h.most,
  if_is _ _ _ _ h.fee,
  if_is _ _ _ _ h.tariff,
)

-- ---- apart, and a run

apart_gives : (r s : ℕ) → apart r s ≡ true → upto r ≤ from s
unfolding apart
apart_gives r s h =
    let k = both (ltb r s) (not (of_pair (period_point s) (period_element s) r) || leb (period_end r) (period_first s)) h in
    let f = lt_from r s (ltb-true r s k.0) in
    let a = first_lt s in
    let b = end_lt r in
    cases (of_pair (period_point s) (period_element s) r)
    (λ o. let m = pair_true (period_point s) (period_element s) r o in
    let l : leb (period_end r) (period_first s) ≡ true = rw o at k.1 in
    omega (arith, tests))
    (λ o. let m = pair_false (period_point s) (period_element s) r (element_lt s) o in omega arith)

is-apart : (r s : ℕ) → from r < upto r → upto r ≤ from s → apart r s ≡ true
unfolding apart
is-apart r s h k =
    let l = lt-ltb r s (from_lt r s (omega arith)) in
    cases (of_pair (period_point s) (period_element s) r)
    (λ o. let m = pair_true (period_point s) (period_element s) r o in
    let l' : leb (period_end r) (period_first s) ≡ true = omega (arith, tests) in
    rw (l, o, l'))
    (λ o. rw (l, o))

pub run_of : (op : Opening) (r : ℕ) (rs : List ℕ) → chained apart (r ∷ rs) ≡ true → all_in (period_right op) (r ∷ rs) ≡ true
    → Run (from r) (r ∷ rs)
unfolding chained all_in
run_of op r [] c a = let h = right_of op r (both _ _ a).0 in
    let d = h.days in
    next {w = r} (le_refl _) (omega arith) h.some done
run_of op r (s ∷ rs) c a = let h = right_of op r (both _ _ a).0 in
    let d = h.days in
    let k = both _ _ c in
    next {w = r} (le_refl _) (omega arith) h.some
    (weaken (apart_gives r s k.0) (run_of op s rs k.1 (both (period_right op r) _ a).1))

pub run-rows : (op : Opening) (rs : List ℕ) → chained apart rs ≡ true → all_in (period_right op) rs ≡ true → Run 0 rs
run-rows op [] c a = done
run-rows op (r ∷ rs) c a = weaken {j = 0} {k = from r} (omega arith) (run_of op r rs c a)

pub run-chained : {k : ℕ} {rs : List ℕ} → Run k rs → chained apart rs ≡ true
unfolding chained
run-chained done = refl
run-chained (next i j c done) = refl
run-chained (next {w = r} i j c (next {w = s} i' j' c' r')) = rw (is-apart r s j i', run-chained (next i' j' c' r'))

-- ---- a row put in

module _ (p e a b w : ℕ) (he : e < element_room) (wp : period_point w ≡ p) (we : period_element w ≡ e) (wa : period_first w ≡ a)
    (wb : period_end w ≡ b) (wq : 1 ≤ period_quantity w) (hb : a < b) where
  pub run_insert : {k : ℕ} {ws : List ℕ} → k ≤ from w → b ≤ next_start ws p e a → linked_in ws p e a ≡ false → Run k ws
      → Run k (insert_row w ws)
  run_insert h n l done = rw insert_nil (next {w = w} h (omega arith) wq done)
  run_insert h n l (next {w = x} {ws = xs} i j c r) =
      let m = neither (covers p e a x) (linked_in xs p e a) (simp linked_cons at l) in
      let f = from_is w in
      let g = from_is x in
      let ex = end_lt x in
      let ew = end_lt w in
      let fx = first_lt x in
      let fw = first_lt w in
      simp insert_cons (cases (of_pair p e x)
      (λ o. let y = pair_true p e x o in
      cases (ltb a (period_first x))
      (λ t. let n' : b ≤ min (period_first x) (next_start xs p e a) = simp (next-cons, o, t) at n in
      let u : ltb w x ≡ true = omega (arith, tests) in
      simp u (next {w = w} h (omega arith) wq (next {k = upto w} {w = x} (omega (arith, tests)) j c r)))
      (λ t. let n' : b ≤ next_start xs p e a = simp (next-cons, o, t) at n in
      let z : leb (period_first x) a ≡ true = omega (arith, tests) in
      let v : ltb a (period_end x) ≡ false = simp (covers-is, o, z) at m.0 in
      let u : ltb w x ≡ false = omega (arith, tests) in
      simp u (next {w = x} i j c (run_insert {k = upto x} (omega (arith, tests)) n' m.1 r))))
      (λ o. let y = pair_false p e x he o in
      let n' : b ≤ next_start xs p e a = simp (next-cons, o) at n in
      cases (ltb w x)
      (λ u. simp u (next {w = w} h (omega arith) wq (next {k = upto w} {w = x} (omega (arith, tests)) j c r)))
      (λ u. simp u (next {w = x} i j c (run_insert {k = upto x} (omega (arith, tests)) n' m.1 r)))))

-- ---- a stop and a new quantity

-- the fields of a packed row, as one fact
pub record Packed (p e a b q r : ℕ) : Type 0 where
  pub point : period_point r ≡ p
  pub element : period_element r ≡ e
  pub first : period_first r ≡ a
  pub end : period_end r ≡ b
  pub quantity : period_quantity r ≡ q

pub packed : (p e a b q : ℕ) → e < element_room → a < day_room → b < day_room → q < quantity_room → Packed p e a b q (pack_period p e a b q)
packed p e a b q he ha hb hq =
    record {
      point = point_pack p e a b q he ha hb hq;
      element = element_pack p e a b q he ha hb hq;
      first = first_pack p e a b q he ha hb hq;
      end = end_pack p e a b q he ha hb hq;
      quantity = quantity_pack p e a b q he ha hb hq;
    }

module _ (p e a : ℕ) (he : e < element_room) (ha : a < day_room) where
  pub run_stop : {k : ℕ} {ws : List ℕ} → Run k ws → Run k (stop_rows p e a ws)
  run_stop done = rw stop_nil done
  run_stop {k} (next {w = w} i j c r) = simp stop_cons (cases (of_pair p e w)
      (λ o. let y = pair_true p e w o in
      cases (leb a (period_first w))
      (λ t. simp (o, t) (weaken {j = k} {k = upto w} (omega arith) (run_stop r)))
      (λ t. cases (ltb a (period_end w))
      (λ u. let v = pack_period p e (period_first w) a (period_quantity w) in
      let f = packed p e (period_first w) a (period_quantity w) he (first_lt w) ha (quantity_lt w) in
      simp (o, t, u) (next {k = k} {w = v} (omega arith) (omega (arith, tests)) (omega arith)
      (weaken {j = upto v} {k = upto w} (omega (arith, tests)) (run_stop r))))
      (λ u. simp (o, t, u) (next i j c (run_stop r)))))
      (λ o. simp o (next i j c (run_stop r))))

  pub run_split : (q : ℕ) → 1 ≤ q → q < quantity_room → {k : ℕ} {ws : List ℕ} → Run k ws → Run k (split_rows p e a q ws)
  run_split q hl hq done = rw split_nil done
  run_split q hl hq {k} (next {w = w} i j c r) = simp split_cons (cases (covers p e a w)
      (λ t. let y = covered p e a w t in
      let u = pack_period p e (period_first w) a (period_quantity w) in
      let v = pack_period p e a (period_end w) q in
      let f = packed p e (period_first w) a (period_quantity w) he (first_lt w) ha (quantity_lt w) in
      let g = packed p e a (period_end w) q he ha (end_lt w) hq in
      let r' : Run (upto v) _ = weaken {j = upto v} {k = upto w} (omega arith) r in
      cases (eqb (period_first w) a)
      (λ n. simp (t, n) (next {k = k} {w = v} (omega arith) (omega arith) (omega arith) r'))
      (λ n. simp (t, n) (next {k = k} {w = u} (omega arith) (omega (arith, tests)) (omega arith)
      (next {k = upto u} {w = v} (omega arith) (omega arith) (omega arith) r'))))
      (λ t. simp t (next i j c (run_split q hl hq r))))

-- ---- each row right by itself

module _ (op : Opening) (he : op.elements ≤ most_elements) where
  pub right_pack : (p e a b q : ℕ) → p < op.points → e < op.elements → a < b → b ≤ end_of_days → 1 ≤ q → q ≤ most_quantity
      → (kind_of op e ≡ 2 → b ≡ suc a) → (kind_of op e ≡ 3 → q ≡ 1) → period_right op (pack_period p e a b q) ≡ true
  right_pack p e a b q hp hl hb hd h1 hm fee tariff =
      let f = packed p e a b q (omega arith) (omega arith) (omega arith) (omega arith) in
      is_right op (pack_period p e a b q) record {
        point = omega arith;
        element = omega arith;
        days = omega arith;
        last = omega arith;
        some = omega arith;
        most = omega arith;
        fee = λ k. rw (f.end, f.first) (fee (rw f.element at k));
        tariff = λ k. rw f.quantity (tariff (rw f.element at k));
      }

  pub right_insert : (r : ℕ) (ws : List ℕ) → period_right op r ≡ true → all_in (period_right op) ws ≡ true
      → all_in (period_right op) (insert_row r ws) ≡ true
  unfolding all_in
  right_insert r [] h a = rw (insert_nil, h)
  right_insert r (x ∷ xs) h a = let k = both (period_right op x) _ a in simp insert_cons (cases (ltb r x)
      (λ t. rw (t, h, k.0, k.1))
      (λ t. rw (t, k.0, right_insert r xs h k.1)))

  module _ (p e a : ℕ) (ha : a < end_of_days) where
    pub right_stop : (ws : List ℕ) → all_in (period_right op) ws ≡ true → all_in (period_right op) (stop_rows p e a ws) ≡ true
    unfolding all_in
    right_stop [] h = simp stop_nil
    right_stop (x ∷ xs) h = let k = both (period_right op x) _ h in
        let f = right_of op x k.0 in
        simp stop_cons (cases (of_pair p e x)
        (λ o. let y = pair_true p e x o in
        cases (leb a (period_first x))
        (λ t. rw (o, t, right_stop xs k.1))
        (λ t. cases (ltb a (period_end x))
        (λ u. simp (
          o,
          t,
          u,
          right_stop xs k.1,
          right_pack p e (period_first x) a (period_quantity x) (omega arith) (omega arith) (omega (arith, tests)) (omega arith)
              (omega arith)
              (omega arith)
              (λ q. let z = f.fee (rw y.1 q) in absurd (omega (arith, tests)))
              (λ q. f.tariff (rw y.1 q)),
        ))
        (λ u. simp (o, t, u, k.0, right_stop xs k.1))))
        (λ o. simp (o, k.0, right_stop xs k.1)))

    pub right_split : (q : ℕ) → 1 ≤ q → q ≤ most_quantity → (kind_of op e ≡ 3 → ⊥) → (ws : List ℕ) → all_in (period_right op) ws ≡ true
        → all_in (period_right op) (split_rows p e a q ws) ≡ true
    unfolding all_in
    right_split q h1 hm nt [] h = simp split_nil
    right_split q h1 hm nt (x ∷ xs) h = let k = both (period_right op x) _ h in
        let f = right_of op x k.0 in
        simp split_cons (cases (covers p e a x)
        (λ c. let y = covered p e a x c in
        let g = right_pack p e a (period_end x) q (omega arith) (omega arith) (omega arith) (omega arith) h1 hm
        (λ n. let z = f.fee (rw y.1 n) in omega (arith, tests))
        (λ n. absurd (nt n)) in
        cases (eqb (period_first x) a)
        (λ t. simp (c, t, g, k.1))
        (λ t. let g' =
        right_pack p e (period_first x) a (period_quantity x) (omega arith) (omega arith) (omega (arith, tests)) (omega arith)
        (omega arith) (omega arith)
        (λ n. let z = f.fee (rw y.1 n) in absurd (omega (arith, tests)))
        (λ n. absurd (nt n)) in
        simp (c, t, g, g', k.1)))
        (λ c. simp (c, k.0, right_split q h1 hm nt xs k.1)))
