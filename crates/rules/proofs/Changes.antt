-- What a day says after a period is put in, after a stop, and after a new quantity.
use Prim.Native.Nat.{ℕ, ◌≤◌, ◌<◌, min}
use mathlib.Core.Path.{◌≡◌, refl, sym, ◌∙◌}
use mathlib.Core.Bool.{true, false, not, ◌&&◌, ◌||◌, cond, false≢true, and-false, or-true}
use mathlib.Core.List.{List, [], ◌∷◌}
use lib.Dec.{leb, ltb, eqb}
use native.Mathlib.Omega.{arith}
use Rattle.rules.specs.Sizes.{day_room, element_room, quantity_room}
use Rattle.rules.specs.Rows.{period_first, period_end, period_quantity, of_pair, covers, quantity_on, starts_on, next_start, insert_row}
use Rattle.rules.specs.Rows.{stop_rows, split_rows}
use Rattle.rules.proofs.Tests.{tests, cases, neither, cond_same, eqb_comm}
use Rattle.rules.proofs.Words.{first_lt, end_lt, quantity_lt, first_pack, end_pack, quantity_pack, pair_pack, pair_pack_same}
use Rattle.rules.proofs.Words.{pair_is, pair_other, covers-is}
use Rattle.rules.proofs.Clauses.{quantity-nil, quantity-cons, starts_nil, starts_cons, next-cons, insert_nil, insert_cons, stop_nil}
use Rattle.rules.proofs.Clauses.{stop_cons, split_nil, split_cons}
use Rattle.rules.specs.Order.{Run, done, next, linked_in}
use Rattle.rules.proofs.Runs.{linked_nil, linked_cons, end_in, end-cons, covered, ends_by}

-- ---- a row put in

pub quantity_insert : (w p e d : ℕ) (ws : List ℕ) → (covers p e d w ≡ true → linked_in ws p e d ≡ false)
    → quantity_on (insert_row w ws) p e d ≡ cond (covers p e d w) (period_quantity w) (quantity_on ws p e d)
quantity_insert w p e d [] h = simp (insert_nil, quantity-cons)
quantity_insert w p e d (x ∷ xs) h = simp (insert_cons, quantity-cons) (cases (ltb w x)
    (λ t. simp (t, quantity-cons))
    (λ t. simp (t, quantity-cons) (cases (covers p e d w)
    (λ c. let n = neither (covers p e d x) (linked_in xs p e d) (simp linked_cons at (h c)) in
    simp (c, n.0, quantity_insert w p e d xs (λ _. n.1)))
    (λ c. simp (c, quantity_insert w p e d xs (λ f. absurd (false≢true (sym c ∙ f))))))))

pub starts_insert : (w p e d : ℕ) (ws : List ℕ)
    → starts_on (insert_row w ws) p e d ≡ ((of_pair p e w && eqb (period_first w) d) || starts_on ws p e d)
starts_insert w p e d [] = simp (insert_nil, starts_cons)
starts_insert w p e d (x ∷ xs) = simp (insert_cons, starts_cons) (cases (ltb w x)
    (λ t. simp (t, starts_cons))
    (λ t. simp (t, starts_cons, starts_insert w p e d xs) (cases (of_pair p e w && eqb (period_first w) d)
    (λ c. simp (c, or-true))
    (λ c. simp c))))

-- a day that is not linked, and the days from it to the next start
pub clear : (p e a b d : ℕ) (ws : List ℕ) → linked_in ws p e a ≡ false → b ≤ next_start ws p e a → a ≤ d → d < b
    → linked_in ws p e d ≡ false
clear p e a b d [] l n h k = linked_nil p e d
clear p e a b d (w ∷ ws) l n h k =
    let m = neither (covers p e a w) (linked_in ws p e a) (simp linked_cons at l) in
    cases (of_pair p e w)
    (λ o. cases (ltb a (period_first w))
    (λ t. let n' : b ≤ min (period_first w) (next_start ws p e a) = simp (next-cons, o, t) at n in
    let z : leb (period_first w) d ≡ false = omega (arith, tests) in
    simp (linked_cons, covers-is, o, z, clear p e a b d ws m.1 (omega arith) h k))
    (λ t. let y : leb (period_first w) a ≡ true = omega (arith, tests) in
    let c : ltb a (period_end w) ≡ false = simp (covers-is, o, y) at m.0 in
    let z : ltb d (period_end w) ≡ false = omega (arith, tests) in
    simp (linked_cons, covers-is, o, z, and-false, clear p e a b d ws m.1 (simp (next-cons, o, t) at n) h k)))
    (λ o. simp (linked_cons, covers-is, o, clear p e a b d ws m.1 (simp (next-cons, o) at n) h k))

-- ---- other pairs

only : ℕ → ℕ → List ℕ → List ℕ
only p e [] = []
only p e (w ∷ ws) = cond (of_pair p e w) (w ∷ only p e ws) (only p e ws)

quantity-only : (p e d : ℕ) (ws : List ℕ) → quantity_on (only p e ws) p e d ≡ quantity_on ws p e d
unfolding only
quantity-only p e d [] = refl
quantity-only p e d (w ∷ ws) = cases (of_pair p e w)
    (λ o. simp (o, quantity-cons, quantity-only p e d ws))
    (λ o. simp (o, quantity-cons, covers-is, quantity-only p e d ws))

starts_only : (p e d : ℕ) (ws : List ℕ) → starts_on (only p e ws) p e d ≡ starts_on ws p e d
unfolding only
starts_only p e d [] = refl
starts_only p e d (w ∷ ws) = cases (of_pair p e w)
    (λ o. simp (o, starts_cons, starts_only p e d ws))
    (λ o. simp (o, starts_cons, starts_only p e d ws))

module _ (p e p' e' : ℕ) (he : e < element_room) (ne : (eqb p p' && eqb e e') ≡ false) where
  only_stop : (a : ℕ) → a < day_room → (ws : List ℕ) → only p' e' (stop_rows p e a ws) ≡ only p' e' ws
  unfolding only
  only_stop a ha [] = simp stop_nil
  only_stop a ha (w ∷ ws) = simp stop_cons (cases (of_pair p e w)
      (λ o. let n = pair_other p e p' e' w ne o in
      cases (leb a (period_first w))
      (λ t. simp (o, t, n, only_stop a ha ws))
      (λ t. cases (ltb a (period_end w))
      (λ u. simp
      (o, t, u, n, pair_pack p e (period_first w) a (period_quantity w) he (first_lt w) ha (quantity_lt w), ne, only_stop a ha ws))
      (λ u. simp (o, t, u, n, only_stop a ha ws))))
      (λ o. simp (o, only_stop a ha ws)))

  only_split : (a q : ℕ) → a < day_room → q < quantity_room → (ws : List ℕ) → only p' e' (split_rows p e a q ws) ≡ only p' e' ws
  unfolding only
  only_split a q ha hq [] = simp split_nil
  only_split a q ha hq (w ∷ ws) = simp split_cons (cases (covers p e a w)
      (λ c. let m = covered p e a w c in
      let n = pair_other p e p' e' w ne (pair_is p e w m.0 m.1) in
      let x = pair_pack p e a (period_end w) q he ha (end_lt w) hq in
      let y = pair_pack p e (period_first w) a (period_quantity w) he (first_lt w) ha (quantity_lt w) in
      cases (eqb (period_first w) a)
      (λ t. simp (c, t, x, ne, n))
      (λ t. simp (c, t, x, y, ne, n)))
      (λ c. simp (c, only_split a q ha hq ws)))

  module _ (a d : ℕ) (ha : a < day_room) (ws : List ℕ) where
    pub quantity_stop_other : quantity_on (stop_rows p e a ws) p' e' d ≡ quantity_on ws p' e' d
    quantity_stop_other = sym (quantity-only p' e' d (stop_rows p e a ws)) ∙ rw (only_stop a ha ws) (quantity-only p' e' d ws)

    pub starts_stop_other : starts_on (stop_rows p e a ws) p' e' d ≡ starts_on ws p' e' d
    starts_stop_other = sym (starts_only p' e' d (stop_rows p e a ws)) ∙ rw (only_stop a ha ws) (starts_only p' e' d ws)

    pub quantity_split_other : (q : ℕ) → q < quantity_room → quantity_on (split_rows p e a q ws) p' e' d ≡ quantity_on ws p' e' d
    quantity_split_other q hq =
        sym (quantity-only p' e' d (split_rows p e a q ws)) ∙ rw (only_split a q ha hq ws) (quantity-only p' e' d ws)

    pub starts_split_other : (q : ℕ) → q < quantity_room → starts_on (split_rows p e a q ws) p' e' d ≡ starts_on ws p' e' d
    starts_split_other q hq = sym (starts_only p' e' d (split_rows p e a q ws)) ∙ rw (only_split a q ha hq ws) (starts_only p' e' d ws)

-- ---- the pair itself

module _ (p e a d : ℕ) (he : e < element_room) (ha : a < day_room) where
  pub quantity_stop : (ws : List ℕ) → quantity_on (stop_rows p e a ws) p e d ≡ cond (leb a d) 0 (quantity_on ws p e d)
  quantity_stop [] = simp (stop_nil, quantity-nil, cond_same)
  quantity_stop (w ∷ ws) = simp (stop_cons, quantity-cons, covers-is) (cases (of_pair p e w)
      (λ o. cases (leb a (period_first w))
      (λ t. simp (o, t, quantity_stop ws) (cases (leb a d)
      (λ k. simp k)
      (λ k. let z : leb (period_first w) d ≡ false = omega (arith, tests) in simp z)))
      (λ t. cases (ltb a (period_end w))
      (λ u. let x = pair_pack_same p e (period_first w) a (period_quantity w) he (first_lt w) ha (quantity_lt w) in
      let f = first_pack p e (period_first w) a (period_quantity w) he (first_lt w) ha (quantity_lt w) in
      let g = end_pack p e (period_first w) a (period_quantity w) he (first_lt w) ha (quantity_lt w) in
      let h = quantity_pack p e (period_first w) a (period_quantity w) he (first_lt w) ha (quantity_lt w) in
      cases (leb a d)
      (λ k. let z : ltb d a ≡ false = omega (arith, tests) in
      simp (o, t, u, k, quantity-cons, covers-is, x, f, g, h, z, and-false, quantity_stop ws))
      (λ k. let z : ltb d a ≡ true = omega (arith, tests) in let y : ltb d (period_end w) ≡ true = omega (arith, tests) in
      simp (o, t, u, k, quantity-cons, covers-is, x, f, g, h, z, y, quantity_stop ws)))
      (λ u. cases (leb a d)
      (λ k. let z : ltb d (period_end w) ≡ false = omega (arith, tests) in
      simp (o, t, u, k, z, quantity-cons, covers-is, and-false, quantity_stop ws))
      (λ k. simp (o, t, u, k, quantity-cons, covers-is, quantity_stop ws)))))
      (λ o. simp (o, quantity-cons, covers-is, quantity_stop ws)))

  pub starts_stop : (ws : List ℕ) → starts_on (stop_rows p e a ws) p e d ≡ (not (leb a d) && starts_on ws p e d)
  starts_stop [] = simp (stop_nil, starts_nil, and-false)
  starts_stop (w ∷ ws) = simp (stop_cons, starts_cons) (cases (of_pair p e w)
      (λ o. cases (leb a (period_first w))
      (λ t. simp (o, t, starts_stop ws) (cases (leb a d)
      (λ k. simp k)
      (λ k. let z : eqb (period_first w) d ≡ false = omega (arith, tests) in simp z)))
      (λ t. cases (ltb a (period_end w))
      (λ u. let x = pair_pack_same p e (period_first w) a (period_quantity w) he (first_lt w) ha (quantity_lt w) in
      let f = first_pack p e (period_first w) a (period_quantity w) he (first_lt w) ha (quantity_lt w) in
      cases (leb a d)
      (λ k. let z : eqb (period_first w) d ≡ false = omega (arith, tests) in simp (o, t, u, k, starts_cons, x, f, z, starts_stop ws))
      (λ k. simp (o, t, u, k, starts_cons, x, f, starts_stop ws)))
      (λ u. cases (leb a d)
      (λ k. let z : eqb (period_first w) d ≡ false = omega (arith, tests) in simp (o, t, u, k, z, starts_cons, starts_stop ws))
      (λ k. simp (o, t, u, k, starts_cons, starts_stop ws)))))
      (λ o. simp (o, starts_cons, starts_stop ws)))

module _ (p e a q d : ℕ) (he : e < element_room) (ha : a < day_room) (hq : q < quantity_room) where
  pub quantity_split : {k : ℕ} {ws : List ℕ} → Run k ws → linked_in ws p e a ≡ true
      → quantity_on (split_rows p e a q ws) p e d ≡ cond (leb a d && ltb d (end_in ws p e a)) q (quantity_on ws p e d)
  quantity_split done l = absurd (false≢true (sym (linked_nil p e a) ∙ l))
  quantity_split (next {w = w} {ws = ws} i j k r) l = simp (split_cons, quantity-cons, end-cons) (cases (covers p e a w)
      (λ c. let m = covered p e a w c in
      let o = pair_is p e w m.0 m.1 in
      let x = pair_pack_same p e a (period_end w) q he ha (end_lt w) hq in
      let x1 = first_pack p e a (period_end w) q he ha (end_lt w) hq in
      let x2 = end_pack p e a (period_end w) q he ha (end_lt w) hq in
      let x3 = quantity_pack p e a (period_end w) q he ha (end_lt w) hq in
      let y = pair_pack_same p e (period_first w) a (period_quantity w) he (first_lt w) ha (quantity_lt w) in
      let y1 = first_pack p e (period_first w) a (period_quantity w) he (first_lt w) ha (quantity_lt w) in
      let y2 = end_pack p e (period_first w) a (period_quantity w) he (first_lt w) ha (quantity_lt w) in
      let y3 = quantity_pack p e (period_first w) a (period_quantity w) he (first_lt w) ha (quantity_lt w) in
      cases (eqb (period_first w) a)
      (λ t. let z : period_first w ≡ a = omega (arith, tests) in
      simp (c, t, quantity-cons, covers-is, x, x1, x2, x3, o)
      (simp z (cases (leb a d && ltb d (period_end w)) (λ b. simp b) (λ b. simp b))))
      (λ t. simp (c, t, quantity-cons, covers-is, x, x1, x2, x3, y, y1, y2, y3, o) (cases (leb a d)
      (λ b. let z : ltb d a ≡ false = omega (arith, tests) in
      cases (ltb d (period_end w)) (λ u. simp (b, z, u, and-false)) (λ u. simp (b, z, u, and-false)))
      (λ b. let z : ltb d a ≡ true = omega (arith, tests) in let u : ltb d (period_end w) ≡ true = omega (arith, tests) in
      simp (b, z, u)))))
      (λ c. let l' : linked_in ws p e a ≡ true = simp (linked_cons, c) at l in
      simp (c, quantity-cons, quantity_split r l') (cases (leb a d)
      (λ b. cases (of_pair p e w)
      (λ o. let n = ends_by p e a w r l' o in
      let z : ltb d (period_end w) ≡ false = omega (arith, tests) in
      simp (covers-is, z, o, and-false))
      (λ o. simp (covers-is, o)))
      (λ b. simp b))))

  pub starts_split : (ws : List ℕ) → linked_in ws p e a ≡ true → starts_on (split_rows p e a q ws) p e d ≡ (eqb d a || starts_on ws p e d)
  starts_split [] l = absurd (false≢true (sym (linked_nil p e a) ∙ l))
  starts_split (w ∷ ws) l = simp (split_cons, starts_cons) (cases (covers p e a w)
      (λ c. let m = covered p e a w c in
      let o = pair_is p e w m.0 m.1 in
      let x = pair_pack_same p e a (period_end w) q he ha (end_lt w) hq in
      let x1 = first_pack p e a (period_end w) q he ha (end_lt w) hq in
      let y = pair_pack_same p e (period_first w) a (period_quantity w) he (first_lt w) ha (quantity_lt w) in
      let y1 = first_pack p e (period_first w) a (period_quantity w) he (first_lt w) ha (quantity_lt w) in
      cases (eqb (period_first w) a)
      (λ t. let z : period_first w ≡ a = omega (arith, tests) in
      simp (c, t, starts_cons, x, x1, o) (simp (z, eqb_comm a d) (cases (eqb d a) (λ b. simp b) (λ b. simp b))))
      (λ t. simp (c, t, starts_cons, x, x1, y, y1, o, eqb_comm a d) (cases (eqb d a) (λ b. simp (b, or-true)) (λ b. simp b))))
      (λ c. simp (c, starts_cons, starts_split ws (simp (linked_cons, c) at l)) (cases (eqb d a) (λ b. simp (b, or-true)) (λ b. simp b))))
