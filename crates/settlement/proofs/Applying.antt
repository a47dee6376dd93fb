-- A message that has passed questions 2 to 16: its changes are the rules', so question 17 and what is written are the rules' too.
use Prim.Native.Nat.{ℕ, zero, suc, ◌*◌, ◌≤◌, ◌<◌}
use mathlib.Core.Path.{◌≡◌, refl, sym, ap, ap₂, ◌∙◌}
use mathlib.Core.Bool.{Bool, true, false, ◌&&◌}
use mathlib.Core.List.{List}
use Rattle.std.specs.Prelude.{map}
use lib.IntN.{ℤ, pos, nat_abs, +ℤ_idl}
use lib.ListN.{length, get_or, replicate, length-replicate, length-map}
use native.Mathlib.Omega.{arith}
use Rattle.rules.specs.declared.Book.{Book}
use Rattle.rules.specs.declared.Body.{Body}
use Rattle.rules.specs.Basics.{all_to}
use Rattle.rules.specs.Lines.{Measure}
use Rattle.rules.specs.Sizes.{line_size, most_elements, most_lines}
use Rattle.rules.specs.World.{Opening, Tables, World, line_count}
use Rattle.rules.specs.WellFormed.{rows_fit, line_right}
use Rattle.rules.specs.Effects.{told, moved_lines, tables_after, lines_after, ask, question17}
use Rattle.rules.specs.Lent.{Lists, world_in, opening_in, tables_in}
use Rattle.rules.proofs.Parts.{few-lines, lengths}
use Rattle.pricing.specs.declared.Charge.{Charge}
use Rattle.tables.proofs.Right.{whole-rows}
use Rattle.posting.specs.Fits.{Room, before_message}
use Rattle.posting.specs.Kinds.{change_at}
use Rattle.posting.specs.Moved.{charge_in, no_charge}
use Rattle.posting.specs.Posted.{Posted, PostedBoth, Postable, charging}
use Rattle.posting.proofs.Posted.{postable_charging}
use Rattle.posting.proofs.Sizes.{change_small}
use Rattle.posting.proofs.WholeBook.{whole-book}
use Rattle.recording.specs.Recorded.{recorded_in}
use Rattle.ledger.specs.Added.{added_lines, quantities_of, amounts_of, Changes, ByRules}
use Rattle.ledger.specs.Moved.{lines_in}
use Rattle.ledger.proofs.MovedLines.{moved_added, fit_is, changes}
use Rattle.settlement.specs.Replies.{ReadyIn, Applied, moved_on}

-- what the changes of the lines are computed from
pub postable : (b : Book) (o : Lists) (body : Body) → ReadyIn (world_in b o) body → Postable (opening_in b o) (tables_in b o) body
postable b o body r =
    let w = world_in b o in
    let rows = whole-rows b o r.whole in
    record {
      whole = whole-book w r.whole;
      ready = r.ready;
      links = rows.links;
      few = (lengths w r.whole).links.0;
      holders = rows.holders;
      states = rows.states;
    }

-- the same as what is lent of a book asks it
pub postable_in : (b : Book) (o : Lists) (body : Body) → ReadyIn (world_in b o) body
    → Postable (opening_in b o) (charging (tables_in b o)) body
postable_in b o body r = postable_charging (opening_in b o) (tables_in b o) body (postable b o body r)

-- ---- changes that begin at 0

unfoldable pub zeros : List Charge
zeros = replicate most_lines no_charge

zero-at : (n k : ℕ) → get_or (replicate n no_charge) k no_charge ≡ no_charge
zero-at zero k = refl
zero-at (suc n) zero = refl
zero-at (suc n) (suc k) = zero-at n k

zero-in : (n k : ℕ) (f : Charge → ℤ) → f no_charge ≡ pos 0 → get_or (map f (replicate n no_charge)) k (pos 0) ≡ pos 0
zero-in zero k f e = refl
zero-in (suc n) zero f e = e
zero-in (suc n) (suc k) f e = zero-in n k f e

-- there is room in them for the changes
pub zeros_room : (n : ℕ) → n ≤ most_elements → Room n before_message zeros
unfolding zeros charge_in
zeros_room n h = record { places = rw length-replicate (omega arith); small = λ m k l. rw (zero-at most_lines k) (none m) }
  where
    none : (m : Measure) → nat_abs (charge_in m no_charge) ≤ before_message
    none Measure.quantity = omega arith
    none Measure.amount = omega arith

-- the rules' difference of each line, where so many changes stand in one measure
module _ (o : Opening) (t : Tables) (b : Body) {xs ys : List ℤ} (m : Measure) (p : Posted o t (told o t b) m xs ys)
    (none : (k : ℕ) → get_or xs k (pos 0) ≡ pos 0) where
  change_is : (k : ℕ) → k < line_count o → get_or ys k (pos 0) ≡ change_at o t (told o t b) m k
  change_is k l = p.at k l ∙ rw (none k) (+ℤ_idl _)

  by_rules : ByRules o t (told o t b) m ys
  by_rules = record { is = change_is }

-- changes of all lines that are the rules'
pub record Rules (o : Opening) (t : Tables) (b : Body) (qs vs : List ℤ) : Type 0 where
  pub quantity : ByRules o t (told o t b) Measure.quantity qs
  pub amount : ByRules o t (told o t b) Measure.amount vs

module _ (b : Book) (o : Lists) (body : Body) (qs vs : List ℤ) (p : Rules (opening_in b o) (tables_in b o) body qs vs) where
  abbrev w : World
  w = world_in b o

  abbrev t : Tables
  t = tables_in b o

  abbrev v : Tables
  v = told (opening_in b o) t body

  abbrev after-lines : List ℤ
  after-lines = added_lines o.lines qs vs (lines_in b)

  -- the lines with the changes are the rules'
  lines-moved : after-lines ≡ moved_lines (opening_in b o) o.lines t v
  unfolding line_count
  lines-moved = sym (moved_added (opening_in b o) o.lines t v qs vs p.quantity p.amount)

  -- the code's test is question 17
  pub fits-is : (r : Bool) → r ≡ (rows_fit v && all_to (λ k. line_right after-lines (k * line_size)) (lines_in b))
      → question17 w body ≡ r
  unfolding question17 tables_after lines_after line_count
  fits-is r e = ap (λ x. rows_fit v && x) (fit_is (opening_in b o) o.lines t v qs vs p.quantity p.amount) ∙ sym e

  -- and what it writes is the rules' next position
  pub applied : question17 w body ≡ true → (mid : World) → mid ≡ recorded_in w body → (lines : List ℤ) → lines ≡ after-lines
      → Applied w (record mid { position = record mid.position { lines = lines } }) body 0
  unfolding moved_on tables_after lines_after ask
  applied h mid e lines l =
      record {
        number_is = rw h;
        world = rw h (ap₂ (λ (x : World) (y : List ℤ). record x { position = record x.position { lines = y } }) e (l ∙ lines-moved));
      }

-- a refusal leaves the world as it was
pub applied_not : (w after : World) (b : Body) → question17 w b ≡ false → after ≡ w → Applied w after b 17
unfolding ask
applied_not w after b h e = record { number_is = rw h; world = rw h e }

module _ (b : Book) (o : Lists) (body : Body) (cs : List Charge) (p : PostedBoth (opening_in b o) (tables_in b o) body zeros cs) where
  quantity-none : (k : ℕ) → get_or (quantities_of zeros) k (pos 0) ≡ pos 0
  unfolding zeros
  quantity-none k = zero-in most_lines k (λ c. c.quantity) refl

  amount-none : (k : ℕ) → get_or (amounts_of zeros) k (pos 0) ≡ pos 0
  unfolding zeros
  amount-none k = zero-in most_lines k (λ c. c.amount) refl

  quantities_long : length (quantities_of cs) ≡ most_lines
  unfolding zeros
  quantities_long = p.quantity.same_length ∙ length-map zeros (λ c. c.quantity) ∙ length-replicate most_lines no_charge

  amounts_long : length (amounts_of cs) ≡ most_lines
  unfolding zeros
  amounts_long = p.amount.same_length ∙ length-map zeros (λ c. c.amount) ∙ length-replicate most_lines no_charge

  -- the changes can be added
  pub changed : ReadyIn (world_in b o) body → Changes o.lines (quantities_of cs) (amounts_of cs) (lines_in b)
  unfolding line_count
  changed r =
      let l = (lengths (world_in b o) r.whole).limited in
      let few = few-lines b.suppliers b.elements l.suppliers l.elements in
      let q = quantities_long in
      let a = amounts_long in
      let g = postable b o body r in
      changes (world_in b o) r.whole (quantities_of cs) (amounts_of cs) (omega arith) (omega arith)
      (λ k i. rw (change_is (opening_in b o) (tables_in b o) body Measure.quantity p.quantity quantity-none k i)
      (change_small (opening_in b o) (tables_in b o) body g Measure.quantity k i))
      (λ k i. rw (change_is (opening_in b o) (tables_in b o) body Measure.amount p.amount amount-none k i)
      (change_small (opening_in b o) (tables_in b o) body g Measure.amount k i))

  pub posted_rules : Rules (opening_in b o) (tables_in b o) body (quantities_of cs) (amounts_of cs)
  posted_rules =
      record {
        quantity = by_rules (opening_in b o) (tables_in b o) body Measure.quantity p.quantity quantity-none;
        amount = by_rules (opening_in b o) (tables_in b o) body Measure.amount p.amount amount-none;
      }
