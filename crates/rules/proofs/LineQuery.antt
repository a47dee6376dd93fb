-- The line query of a whole book names the stored line, in its one form.
use mathlib.Core.Path.{◌≡◌, refl, ap, ◌∙◌}
use Prim.Native.Nat.{ℕ, ◌+◌, ◌-◌, ◌*◌, ◌<◌}
use mathlib.Core.Bool.{true, ◌&&◌, false≢true}
use lib.IntN.{ℤ, pos, negsuc, nat_abs}
use lib.ListN.{get_or}
use lib.Dec.{leb}
use lib.Signed.{le_z}
use borrow.Author.Tests.{leb-true, le-leb, lt-ltb}
use native.Mathlib.Omega.{arith}
use Rattle.rules.specs.Sizes.{billion}
use Rattle.rules.specs.Basics.{within}
use Rattle.rules.specs.Lines.{Measure}
use Rattle.rules.specs.World.{World, line_at, kroner_of, billionths_of, amount_of, stored_at, stored, InBook}
use Rattle.rules.specs.WellFormed.{line_limit, line_right, lines_right, tables_right, question5}
use Rattle.rules.specs.Effects.{ask, ask_book}
use Rattle.rules.specs.Queries.{line_number, line_stored, line_query, line_named, named}
use Rattle.rules.proofs.Tests.{both}
use Rattle.rules.proofs.Ranges.{all-at}
use Rattle.rules.proofs.Stored.{amount_back, amount-form, line-below}
use Rattle.rules.specs.Whole.{Whole}

-- what an answer names that is made of two numbers
names : (f : Measure → ℤ) (m : Measure) → named m (line_named (f Measure.quantity) (f Measure.amount)) ≡ f m
unfolding named line_named
names f Measure.quantity = refl
names f Measure.amount = amount_back (f Measure.amount)

-- a number within 0 and 999,999,999 is one of billionths
form : (k z : ℤ) → le_z (pos 0) z && le_z z (pos (billion - 1)) ≡ true
    → (kroner_of (amount_of k z) ≡ k) × (billionths_of (amount_of k z) ≡ nat_abs z)
form k (pos b) h =
    let l = both (le_z (pos 0) (pos b)) (le_z (pos b) (pos (billion - 1))) h in
    let m : b < billion = let n = leb-true b (billion - 1) l.1 in omega arith in
    amount-form k b m
form k (negsuc b) h = absurd (false≢true (both (le_z (pos 0) (negsuc b)) (le_z (negsuc b) (pos (billion - 1))) h).0)

module _ (w : World) (c : Whole w) (s e : ℕ) (b : InBook w.opening s e) where
  number : line_number w s e ≡ 0
  unfolding line_number ask_book ask within
  number = rw (
    c.limited,
    c.sized,
    c.elements,
    c.right,
    le-leb 1 s b.someone,
    le-leb s w.opening.suppliers b.supplier,
    lt-ltb e w.opening.elements b.element,
  )

  right-line : line_right w.position.lines (line_at w.opening s e) ≡ true
  unfolding question5 lines_right line_at
  right-line =
      let r = both (tables_right w.opening w.position.tables) _ c.right in
      let l = (both (lines_right w.opening w.position.lines) _ r.1).0 in
      all-at _ _ l ((s - 1) * w.opening.elements + e) (line-below w.opening s e b)

  third : le_z (pos 0) (get_or w.position.lines (line_at w.opening s e + 2) (pos 0)) && le_z
      (get_or w.position.lines (line_at w.opening s e + 2) (pos 0)) (pos (billion - 1)) ≡ true
  unfolding line_right
  third =
      let i = line_at w.opening s e in
      let h = both (leb (nat_abs (stored_at w.position.lines Measure.quantity i)) (line_limit Measure.quantity)) _ right-line in
      (both (leb (nat_abs (stored_at w.position.lines Measure.amount i)) (line_limit Measure.amount)) _ h.1).1

  pub query_stored : line_query w s e ≡ line_named (stored w.opening w.position.lines Measure.quantity s e)
      (stored w.opening w.position.lines Measure.amount s e)
  unfolding line_query line_stored line_named stored stored_at
  query_stored =
      let i = line_at w.opening s e in
      let f = form (get_or w.position.lines (i + 1) (pos 0)) (get_or w.position.lines (i + 2) (pos 0)) third in
      rw (number, f.0, f.1)

  pub named-stored : (m : Measure) → named m (line_query w s e) ≡ stored w.opening w.position.lines m s e
  named-stored m = ap (named m) query_stored ∙ names (λ m. stored w.opening w.position.lines m s e) m
