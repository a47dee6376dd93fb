-- Question 5 of a table: what the tests of its rows and free places answer; and what a right table gives the functions of this crate.
use Prim.Native.Nat.{ℕ, zero, suc, ◌/◌, ◌≤◌, ◌<◌, zero-le, suc-le-suc}
use mathlib.Core.Path.{◌≡◌, refl, sym, ap, ◌∙◌}
use mathlib.Core.Bool.{Bool, true, false, ◌&&◌, false≢true}
use mathlib.Core.List.{List, [], ◌∷◌}
use lib.Dec.{eqb}
use lib.ListN.{length, get_or, take, drop, replicate, length-drop}
use native.Mathlib.Omega.{arith}
use native.Mathlib.Nat.{le_refl, le_of_suc-le-suc, not-suc-le-zero}
use borrow.Author.Tests.{ltb-true, eqb-true}
use Rattle.rules.specs.Sizes.{holder_size, places, state_size}
use Rattle.rules.specs.declared.Book.{Book}
use Rattle.rules.specs.Basics.{chained, all_in}
use Rattle.rules.specs.World.{Opening, Table, rows_of, kind_of}
use Rattle.rules.specs.WellFormed.{period_right, apart, value_right, earlier, table_right, links_right, holders_right, states_right}
use Rattle.rules.proofs.Tests.{cases, both}
use Rattle.rules.proofs.Chains.{all_in-list}
use Rattle.rules.specs.Whole.{Whole}
use Rattle.rules.specs.Lent.{Lists, no_lists, world_in, opening_in, lend_data}
use Rattle.rules.proofs.Parts.{lengths, formed, table_ordered, links-run}
use Rattle.tables.specs.Order.{Rising, nil, row, LinkRows, ValueRows, ClearBehind, TableRows}
use Rattle.tables.proofs.Order.{rising_lower}
use Rattle.std.specs.List.{IsAllAdjacentAnswer, list_all}
use native.Mathlib.Numerals.{add-one}

-- ---- by place

module _ (order : ℕ → ℕ → Bool) where
  chained-all : (ws : List ℕ) → ((i : ℕ) → suc i < length ws → order (get_or ws i 0) (get_or ws (suc i) 0) ≡ true) → chained order ws ≡ true
  unfolding chained
  chained-all [] h = refl
  chained-all (x ∷ []) h = refl
  chained-all (x ∷ y ∷ ys) h = rw (h 0 (omega arith)) (chained-all (y ∷ ys) (λ i l. h (suc i) (suc-le-suc l)))

  chained-at : (ws : List ℕ) → chained order ws ≡ true → (i : ℕ) → suc i < length ws → order (get_or ws i 0) (get_or ws (suc i) 0) ≡ true
  unfolding chained
  chained-at [] c i l = absurd (not-suc-le-zero l)
  chained-at (x ∷ []) c i l = absurd (omega arith)
  chained-at (x ∷ y ∷ ys) c zero l = (both (order x y) _ c).0
  chained-at (x ∷ y ∷ ys) c (suc i) l = chained-at (y ∷ ys) (both (order x y) _ c).1 i (le_of_suc-le-suc l)

  -- what `is_sorted_by` answers
  pub chained_answer : (ws : List ℕ) (r : Bool) → IsAllAdjacentAnswer (λ x y b. b ≡ order x y) ws r → r ≡ chained order ws
  chained_answer ws true h = sym (chained-all ws (λ i l. rw (← add-one i) (sym (h i 0 (rw add-one l)))))
  chained_answer ws false h = cases (chained order ws)
      (λ t. let k = h.0 in
      let e : false ≡ order (get_or ws k 0) (get_or ws (suc k) 0) = rw add-one at (h.2 0) in
      absurd (false≢true (e ∙ chained-at ws t k (rw add-one at h.1))))
      (λ t. sym t)

-- what `all` answers
pub all_answer : (ok : ℕ → Bool) (ws : List ℕ) → list_all ok ws ≡ all_in ok ws
all_answer ok ws = sym (all_in-list ok ws)

-- ---- what is not looked at

module _ (b : Book) (o : Lists) (t : Table) where
  pub links_any : links_right (opening_in b (lend_data o.element_data no_lists)) t ≡ links_right (opening_in b o) t
  unfolding links_right table_right period_right kind_of
  links_any = refl

  pub holders_any : holders_right (opening_in b no_lists) t ≡ holders_right (opening_in b o) t
  unfolding holders_right table_right value_right
  holders_any = refl

  pub states_any : states_right (opening_in b no_lists) t ≡ states_right (opening_in b o) t
  unfolding states_right table_right value_right
  states_any = refl

-- the three tests of a table of links
pub links_tests : (b : Book) (o : Lists) (n : ℕ) (xs : List ℕ) → links_right (opening_in b o) (record { used = n; words = xs })
    ≡ (chained apart (take n xs) && (list_all (period_right (opening_in b (lend_data o.element_data no_lists))) (take n xs)
    && list_all (λ x. eqb x 0) (drop n xs)))
unfolding links_right table_right rows_of
links_tests b o n xs = sym (links_any b o (record { used = n; words = xs })) ∙ rw (all_answer, all_answer)

-- ---- what a right table gives

zeros_are : (ws : List ℕ) → all_in (λ x. eqb x 0) ws ≡ true → ws ≡ replicate (length ws) 0
unfolding all_in
zeros_are [] h = refl
zeros_are (x ∷ xs) h = let k = both (eqb x 0) _ h in let e = zeros_are xs k.1 in rw (eqb-true x 0 k.0) (ap (λ (l : List ℕ). 0 ∷ l) e)

module _ (xs : List ℕ) (n : ℕ) (l : length xs ≡ places) (k : n ≤ places) where
  right-clear : (order : ℕ → ℕ → Bool) (right : ℕ → Bool) → table_right order right (record { used = n; words = xs }) ≡ true
      → ClearBehind xs n
  unfolding table_right
  right-clear order right h =
      let rows = rows_of (record { used = n; words = xs }) in
      let z = (both (all_in right rows) _ (both (chained order rows) _ h).1).1 in
      record { long = l; count = k; clear = zeros_are (drop n xs) z ∙ rw (length-drop, l) }

  pub links-clear : (o : Opening) → links_right o (record { used = n; words = xs }) ≡ true → ClearBehind xs n
  unfolding links_right
  links-clear o h = right-clear apart (period_right o) h

  pub links-rows : (o : Opening) → links_right o (record { used = n; words = xs }) ≡ true → LinkRows xs n
  links-rows o h = record { fits = rw l k; run = unfold rows_of in links-run o (record { used = n; words = xs }) h }

module _ (size : ℕ) where
  earlier_rising : (r : ℕ) (rs : List ℕ) → chained (earlier size) (r ∷ rs) ≡ true → Rising (λ w. w / size) (r / size) (r ∷ rs)
  unfolding chained earlier
  earlier_rising r [] c = row (le_refl _) nil
  earlier_rising r (s ∷ rs) c =
      let k = both (earlier size r s) _ c in
      row (le_refl _) (rising_lower (λ w. w / size) (ltb-true _ _ k.0) (earlier_rising s rs k.1))

  chained_rising : (rs : List ℕ) → chained (earlier size) rs ≡ true → Rising (λ w. w / size) 0 rs
  chained_rising [] c = nil
  chained_rising (r ∷ rs) c = rising_lower (λ w. w / size) {j = 0} {k = r / size} zero-le (earlier_rising r rs c)

module _ (xs : List ℕ) (n : ℕ) (l : length xs ≡ places) (k : n ≤ places) (o : Opening) where
  value-rows : (size : ℕ) (right : ℕ → Bool) → table_right (earlier size) right (record { used = n; words = xs }) ≡ true
      → ValueRows size xs n
  value-rows size right h =
      let ordered : chained (earlier size) (take n xs) ≡ true
      = unfold rows_of in table_ordered (earlier size) right (record { used = n; words = xs }) h in
      record { fits = rw l k; order = chained_rising size (take n xs) ordered }

  pub holders-rows : holders_right o (record { used = n; words = xs }) ≡ true → ValueRows holder_size xs n
  unfolding holders_right
  holders-rows h = value-rows holder_size (value_right holder_size 0 o.suppliers o) h

  pub holders-clear : holders_right o (record { used = n; words = xs }) ≡ true → ClearBehind xs n
  unfolding holders_right
  holders-clear h = right-clear xs n l k (earlier holder_size) (value_right holder_size 0 o.suppliers o) h

  pub states-rows : states_right o (record { used = n; words = xs }) ≡ true → ValueRows state_size xs n
  unfolding states_right
  states-rows h = value-rows state_size (value_right state_size 1 4 o) h

  pub states-clear : states_right o (record { used = n; words = xs }) ≡ true → ClearBehind xs n
  unfolding states_right
  states-clear h = right-clear xs n l k (earlier state_size) (value_right state_size 1 4 o) h

-- ---- what a whole book gives: its tables can be searched and written

pub whole-rows : (b : Book) (o : Lists) → Whole (world_in b o) → TableRows b o.links o.holders o.states
whole-rows b o c =
    let n = lengths (world_in b o) c in
    let r = (formed (world_in b o) c).tables in
    record {
      links = links-rows o.links b.periods n.links.1 n.links.0 (opening_in b o) r.links;
      holders = holders-rows o.holders b.holders n.holders.1 n.holders.0 (opening_in b o) r.holders;
      states = states-rows o.states b.states n.states.1 n.states.0 (opening_in b o) r.states;
      links-clear = links-clear o.links b.periods n.links.1 n.links.0 (opening_in b o) r.links;
      holders-clear = holders-clear o.holders b.holders n.holders.1 n.holders.0 (opening_in b o) r.holders;
      states-clear = states-clear o.states b.states n.states.1 n.states.0 (opening_in b o) r.states;
    }
