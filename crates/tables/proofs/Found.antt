-- What a search finds: the row at a place, and where a word goes in.
use Prim.Native.Nat.{ℕ, ◌<◌}
use mathlib.Core.Path.{◌≡◌, refl, sym, ap, ◌∙◌}
use mathlib.Core.Bool.{true, false}
use mathlib.Core.List.{List, [], ◌∷◌}
use lib.Dec.{ltb, leb}
use Rattle.std.specs.Prelude.{Option, Some, None}
use Rattle.std.specs.List.{find, slice_get, ItemBy}
use Rattle.std.specs.Option.{option_map}
use Rattle.std.proofs.lemmas.Option.{slice_get-get_or, slice_get_past}
use native.Mathlib.Omega.{arith}
use borrow.Author.Tests.{lt-ltb}
use Rattle.rules.specs.Rows.{insert_row}
use Rattle.rules.proofs.Tests.{tests, cases}
use Rattle.rules.proofs.Clauses.{insert_nil, insert_cons}
use Rattle.tables.specs.Order.{Rising, nil, row}
use Rattle.tables.specs.Search.{rows_below, put_in}

-- the row at the place is the first that is not below
pub from_at : (x : ℕ) (ws : List ℕ) → slice_get ws (rows_below x ws) ≡ find (λ w. leb x w) ws
unfolding rows_below
from_at x [] = refl
from_at x (w ∷ ws) = cases (ltb w x)
    (λ t. let u : leb x w ≡ false = omega (arith, tests) in rw (t, u) (from_at x ws))
    (λ t. let u : leb x w ≡ true = omega (arith, tests) in rw (t, u))

-- what `get` gives is the element there, if there is one
pub got : {R : Type 0} (now : R → ℕ) (xs : List ℕ) (i : ℕ) (r : Option R) → ItemBy now xs i i r → option_map now r ≡ slice_get xs i
got now xs i None h = sym (slice_get_past xs i h.3)
got now xs i (Some x) h = sym (slice_get-get_or xs i (now x) h.3.0 ∙ ap (λ (v : ℕ). Some v) (sym h.1))

-- where nothing is below the word
below_none : (w : ℕ) {k : ℕ} {ws : List ℕ} → Rising (λ v. v) k ws → w < k → insert_row w ws ≡ w ∷ ws
below_none w nil h = rw insert_nil
below_none w (row {w = x} i m) h = rw (insert_cons, lt-ltb w x (omega arith))

-- a row goes in at the place of its word
pub insert_put : (w : ℕ) {k : ℕ} {ws : List ℕ} → Rising (λ v. v) k ws → insert_row w ws ≡ put_in (rows_below w ws) w ws
unfolding rows_below put_in
insert_put w nil = insert_nil w
insert_put w (row {w = x} {ws = xs} i m) = rw insert_cons (cases (ltb x w)
    (λ t. let u : ltb w x ≡ false = omega (arith, tests) in
    rw (t, u) (ap (λ (l : List ℕ). x ∷ l) (unfold rows_below put_in in insert_put w m)))
    (λ t. cases (ltb w x)
    (λ u. rw (t, u))
    (λ u. let e : x ≡ w = omega (arith, tests) in rw (t, u, below_none w m (omega arith), e))))
