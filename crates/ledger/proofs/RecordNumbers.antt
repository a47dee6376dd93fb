-- Records as numbers: nine a record, in the order of its fields, at the front of a lent list of numbers.
use mathlib.Core.Path.{◌≡◌, refl, sym, ap, ap₂, subst, ◌∙◌}
use mathlib.Core.List.{List, [], ◌∷◌, ◌++◌, append_assoc, append-nil}
use Prim.Native.Nat.{ℕ, zero, suc, ◌+◌, ◌*◌, ◌≤◌, ◌<◌}
use native.Mathlib.Omega.{arith}
use lib.IntN.{ℤ, pos}
use lib.ListN.{length, get_or, take, drop, length-append, length-drop}
use lib.Seq.{ext_get_or, sets, sets-eq, take_at, drop-append-add, drop-drop}
use Rattle.rules.specs.Sizes.{record_size}
use Rattle.rules.specs.declared.Record.{Record}
use Rattle.rules.specs.Basics.{list_to}
use Rattle.rules.specs.Effects.{no_record}
use Rattle.rules.proofs.Ranges.{length-list_to, get_d_list_to}
use Rattle.ledger.specs.LineNumbers.{line_numbers, line_in, LinePlaces}
use Rattle.ledger.specs.RecordNumbers.{name_numbers, record_numbers, moved_place, balance_place, numbers_of, numbers_after}
use Rattle.ledger.specs.RecordNumbers.{record_at, RecordPlaces}

pub length_record : (r : Record) → length (record_numbers r) ≡ record_size
unfolding record_numbers name_numbers line_numbers
length_record r = refl

pub length-numbers : (rs : List Record) → length (numbers_of rs) ≡ length rs * record_size
unfolding numbers_of
length-numbers [] = refl
length-numbers (r ∷ rs) = length-append (record_numbers r) (numbers_of rs) ∙ rw (length_record r) (let h = length-numbers rs in omega arith)

numbers_more : (rs : List Record) (r : Record) → numbers_of (rs ++ (r ∷ [])) ≡ numbers_of rs ++ record_numbers r
unfolding numbers_of
numbers_more [] r = append-nil (record_numbers r)
numbers_more (x ∷ rs) r = ap (λ (l : List ℤ). record_numbers x ++ l) (numbers_more rs r)
    ∙ sym (append_assoc (record_numbers x) (numbers_of rs) (record_numbers r))

pub numbers_none : (lent : List ℤ) → lent ≡ numbers_after [] lent
unfolding numbers_after numbers_of
numbers_none lent = refl

pub length-after : (rs : List Record) (lent : List ℤ) → length rs * record_size ≤ length lent → length (numbers_after rs lent) ≡ length lent
unfolding numbers_after
length-after rs lent h = length-append (numbers_of rs) _ ∙ rw (length-numbers rs, length-drop) (omega arith)

-- one record more
pub numbers_put : (rs : List Record) (r : Record) (lent : List ℤ) (n : ℕ) → length rs ≡ n → (n + 1) * record_size ≤ length lent
    → sets (numbers_after rs lent) (n * record_size) (record_numbers r) ≡ numbers_after (rs ++ (r ∷ [])) lent
unfolding numbers_after
numbers_put rs r lent n e h =
    let l : length (numbers_of rs) ≡ n * record_size = length-numbers rs ∙ ap (λ k. k * record_size) e in
    let s = length-after rs lent (rw e (omega arith)) in
    let k : length (rs ++ (r ∷ [])) ≡ suc n = length-append rs (r ∷ []) ∙ rw e (omega arith) in
    let rest = drop (n * record_size) lent in
    sets-eq (record_numbers r) (numbers_after rs lent) (n * record_size) (rw (length_record r, s) (omega arith))
    ∙ ap (λ (m : ℕ). take (n * record_size) (numbers_after rs lent) ++ record_numbers r
    ++ drop (n * record_size + m) (numbers_after rs lent))
    (length_record r)
    ∙ (ap (λ (m : ℕ). take (n * record_size) (numbers_of rs ++ drop (m * record_size) lent) ++ record_numbers r
    ++ drop (n * record_size + record_size) (numbers_of rs ++ drop (m * record_size) lent)) e
    ∙ ap₂ (λ (a b : List ℤ). a ++ record_numbers r ++ b) (take_at (numbers_of rs) rest (n * record_size) l)
    (ap (λ m. drop (m + record_size) (numbers_of rs ++ rest)) (sym l)
    ∙ drop-append-add (numbers_of rs) rest record_size ∙ drop-drop record_size (n * record_size) lent
    ∙ ap (λ m. drop m lent) (let z : n * record_size + record_size ≡ suc n * record_size = omega arith in z))
    ∙ ap₂ (λ (a : List ℤ) (m : ℕ). a ++ drop (m * record_size) lent) (sym (numbers_more rs r)) (sym k))

-- ---- records that stand as numbers are read as they were written

-- the record behind another
module _ (r : Record) (xs : List ℤ) (i : ℕ) where
  number_behind : (n k : ℕ) → n ≡ record_size + k → get_or (record_numbers r ++ xs) n (pos 0) ≡ get_or xs k (pos 0)
  unfolding record_numbers name_numbers line_numbers
  number_behind n k e = let z : n ≡ suc (suc (suc (suc (suc (suc (suc (suc (suc k)))))))) = omega arith in rw z

  line-behind : (n k : ℕ) → n ≡ record_size + k → line_in (record_numbers r ++ xs) n ≡ line_in xs k
  unfolding line_in
  line-behind n k e =
      rw (number_behind n k e, number_behind (n + 1) (k + 1) (omega arith), number_behind (n + 2) (k + 2) (omega arith))

  record_behind : record_at (record_numbers r ++ xs) (suc i) ≡ record_at xs i
  unfolding record_at
  record_behind = rw (
    number_behind (suc i * record_size) (i * record_size) (omega arith),
    number_behind (suc i * record_size + 1) (i * record_size + 1) (omega arith),
    number_behind (suc i * record_size + 2) (i * record_size + 2) (omega arith),
    line-behind (suc i * record_size + moved_place) (i * record_size + moved_place) (omega arith),
    line-behind (suc i * record_size + balance_place) (i * record_size + balance_place) (omega arith),
  )

  line-places : (n k : ℕ) → n ≡ record_size + k → LinePlaces xs k → LinePlaces (record_numbers r ++ xs) n
  line-places n k e p =
      record {
        inside = let h = p.inside in rw (length-append (record_numbers r) xs, length_record r) (omega arith);
        billionths = rw (number_behind (n + 2) (k + 2) (omega arith)) p.billionths;
      }

  places_behind : RecordPlaces xs i → RecordPlaces (record_numbers r ++ xs) (suc i)
  places_behind p =
      record {
        kind = rw (number_behind (suc i * record_size) (i * record_size) (omega arith)) p.kind;
        supplier = rw (number_behind (suc i * record_size + 1) (i * record_size + 1) (omega arith)) p.supplier;
        element = rw (number_behind (suc i * record_size + 2) (i * record_size + 2) (omega arith)) p.element;
        moved = line-places (suc i * record_size + moved_place) (i * record_size + moved_place) (omega arith) p.moved;
        balance = line-places (suc i * record_size + balance_place) (i * record_size + balance_place) (omega arith) p.balance;
      }

record_front : (rs : List Record) (xs : List ℤ) (i : ℕ) → i < length rs → record_at (numbers_of rs ++ xs) i ≡ get_or rs i no_record
unfolding numbers_of
record_front [] xs i h = absurd (omega arith)
record_front (r ∷ rs) xs zero h = unfold record_at record_numbers name_numbers line_numbers line_in in refl
record_front (r ∷ rs) xs (suc i) h =
    ap (λ (l : List ℤ). record_at l (suc i)) (append_assoc (record_numbers r) (numbers_of rs) xs)
    ∙ record_behind r (numbers_of rs ++ xs) i
    ∙ record_front rs xs i (omega arith)

pub records-read : (rs : List Record) (lent : List ℤ) → list_to (record_at (numbers_after rs lent)) (length rs) ≡ rs
unfolding numbers_after
records-read rs lent =
    ext_get_or no_record _ rs (length-list_to (record_at (numbers_after rs lent)) (length rs)) (λ i l.
    let b : i < length rs = rw (length-list_to (record_at (numbers_after rs lent)) (length rs)) at l in
    get_d_list_to (record_at (numbers_after rs lent)) (length rs) i no_record b ∙ record_front rs _ i b)

-- and each stands at its place
places-front : (rs : List Record) (xs : List ℤ) (i : ℕ) → i < length rs → RecordPlaces (numbers_of rs ++ xs) i
unfolding numbers_of
places-front [] xs i h = absurd (omega arith)
places-front (r ∷ rs) xs zero h =
    unfold record_numbers name_numbers line_numbers in record {
      kind = tt;
      supplier = tt;
      element = tt;
      moved = record { inside = omega arith; billionths = tt };
      balance = record { inside = omega arith; billionths = tt };
    }
places-front (r ∷ rs) xs (suc i) h =
    subst (λ (l : List ℤ). RecordPlaces l (suc i)) (sym (append_assoc (record_numbers r) (numbers_of rs) xs))
    (places_behind r (numbers_of rs ++ xs) i (places-front rs xs i (omega arith)))

pub records-placed : (rs : List Record) (lent : List ℤ) (i : ℕ) → i < length rs → RecordPlaces (numbers_after rs lent) i
unfolding numbers_after
records-placed rs lent i h = places-front rs (drop (length rs * record_size) lent) i h
