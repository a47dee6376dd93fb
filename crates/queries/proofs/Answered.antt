-- The answers of the line query and of the query for periods. A line that is right is stored in its one form, so the stored numbers are
-- those that the rules name; for a book that was reached from an opening demand 3 says which.
use Prim.Native.Nat.{ℕ, ◌+◌, ◌-◌, ◌*◌, ◌≤◌, ◌<◌}
use mathlib.Core.Path.{◌≡◌, sym, ap, ◌∙◌}
use mathlib.Core.Logic.{◌≢◌}
use mathlib.Core.Bool.{true}
use mathlib.Core.List.{[]}
use lib.ListN.{length, take}
use lib.Seq.{length-take-le}
use lib.Dec.{eqb}
use Rattle.std.specs.Prelude.{Result, Ok, Err, is_ok}
use borrow.Author.Tests.{eq-eqb, ne_eqb}
use native.Mathlib.Nat.{mul-le-mul}
use native.Mathlib.Omega.{arith}
use Rattle.rules.specs.declared.Refusal.{Refusal}
use Rattle.rules.specs.declared.Book.{Book}
use Rattle.rules.specs.declared.Line.{Line}
use Rattle.rules.specs.Sizes.{most_elements, most_lines, most_suppliers}
use Rattle.rules.specs.Lines.{Measure}
use Rattle.rules.specs.World.{World, rows_of, line_at, line_count, stored_at, stored}
use Rattle.rules.specs.WellFormed.{line_right, lines_right, line_places}
use Rattle.rules.specs.Queries.{line_number, line_query, line_named, periods_number, periods_query, periods_read}
use Rattle.rules.specs.Answers.{refusal_number, line_result}
use Rattle.rules.proofs.Ranges.{all-at}
use Rattle.rules.proofs.Stored.{line-below}
use Rattle.rules.proofs.LineQuery.{query_stored}
use Rattle.rules.proofs.Demand3.{demand3}
use Rattle.ledger.specs.Bounds.{LineOf}
use Rattle.rules.proofs.Parts.{lengths, formed}
use Rattle.rules.specs.Lent.{Lists, world_in}
use Rattle.tables.specs.Order.{LinkRows, PairFits}
use Rattle.tables.proofs.Order.{run_rising}
use Rattle.tables.proofs.Parts.{part-within}
use Rattle.tables.proofs.Right.{whole-rows}
use Rattle.queries.specs.Promises.{LineAnswered, PeriodsAt}
use Rattle.queries.specs.PairSearch.{PairFound}
use Rattle.queries.proofs.PairSearch.{place_sorted, part_sorted}
use Rattle.queries.proofs.Asks.{refused_not, line_passed, periods_passed}

-- every product fits
pub place-small : (elements s : ℕ) → s ≤ most_suppliers → elements ≤ most_elements → (s - 1) * elements ≤ most_lines
place-small elements s h k =
    let n : s - 1 ≤ most_suppliers = omega arith in
    let m : (s - 1) * elements ≤ most_suppliers * most_elements = mul-le-mul n k in
    omega arith

module _ (w : World) (s e : ℕ) where
  line-told : (r : Result Line Refusal) → is_ok r ≡ eqb (line_number w s e) 0 → line_result r ≡ line_query w s e → LineAnswered w s e r
  line-told r t h = record {
    told = t;
    stored = h;
    sums = λ w₀ vs a i b. h ∙ rw i ((demand3 w₀ a vs).sums s e b);
    settled = λ w₀ vs a i b. h ∙ rw i ((demand3 w₀ a vs).fresh s e b);
  }

  -- ---- refused

  pub line_refused_lem : (r : Refusal) → refusal_number r ≡ line_number w s e → LineAnswered w s e (Err r)
  unfolding line_query
  line_refused_lem r k =
      let h = ne_eqb (line_number w s e) 0 (λ z. refused_not r (k ∙ z)) in
      line-told (Err r) (sym h) (rw (h, k))

  -- ---- answered

  module _ (h : line_number w s e ≡ 0) where
    pub line_in_lem : ((1 ≤ s) × (s ≤ most_suppliers)) × ((w.opening.elements ≤ most_elements) × (e < w.opening.elements))
    line_in_lem =
        let k = line_passed w s e h in
        let m = (lengths w k.0).limited in
        let b = k.1 in
        let x = m.suppliers in
        let y = b.supplier in
        ((b.someone, omega arith), (m.elements, b.element))

    -- the line's three places are there, and the line is right
    pub line-there : (line_at w.opening s e + 2 < length w.position.lines)
        × (line_right w.position.lines (line_at w.opening s e) ≡ true)
    unfolding lines_right line_places line_at line_count
    line-there =
        let k = line_passed w s e h in
        let n = line-below w.opening s e k.1 in
        let m = (lengths w k.0).lines in
        (omega arith, all-at _ _ (formed w k.0).lines ((s - 1) * w.opening.elements + e) n)

    pub line-named : (r : Line) (m n : ℕ)
        → LineOf r (stored_at w.position.lines Measure.quantity (line_at w.opening s e))
        (stored_at w.position.lines Measure.amount (line_at w.opening s e)) m n
        → LineAnswered w s e (Ok r)
    unfolding stored line_named
    line-named r m n l =
        let k = line_passed w s e h in
        line-told (Ok r) (sym (eq-eqb _ _ h)) (rw (l.quantity, l.kroner, l.billionths) (sym (query_stored w k.0 s e k.1)))

-- ---- the periods

-- what the search for them asks
pub pair_asked : (b : Book) (o : Lists) (p e : ℕ) → periods_number (world_in b o) p e ≡ 0 → LinkRows o.links b.periods × PairFits p e
pair_asked b o p e h =
    let k = periods_passed (world_in b o) p e h in
    let n = (lengths (world_in b o) k.0).limited in
    let points = n.points in
    let elements = n.elements in
    let i = k.1.0 in
    let j = k.1.1 in
    ((whole-rows b o k.0).links, record { point = omega arith; element = omega arith })

-- what it finds among the rows in use is the query's answer: they are in order
pub periods-at : (b : Book) (o : Lists) (p e place count told : ℕ) → periods_number (world_in b o) p e ≡ 0
    → PairFound p e (take b.periods o.links) place count told
    → PeriodsAt (world_in b o) p e place count × (told ≡ periods_read (world_in b o) p e)
unfolding periods_query periods_read rows_of
periods-at b o p e place count told h f =
    let k = pair_asked b o p e h in
    let rows = run_rising k.0.run in
    let part = part_sorted p e k.1.element rows in
    let n = length-take-le b.periods o.links k.0.fits in
    let h' = f.within in
    let i : place + count ≤ b.periods = omega arith in
    let c : place + count - place ≡ count = omega arith in
    let at : PeriodsAt (world_in b o) p e place count
    = record {
      from = f.from ∙ place_sorted p e k.1.element rows;
      many = rw h (f.many ∙ ap length part);
      rows = rw h ((rw c at (part-within place (place + count) b.periods o.links i)) ∙ f.part ∙ part);
      within = i;
    } in
    (at, rw h f.read)

-- it ends within the table
pub periods-inside : (b : Book) (o : Lists) (p e place count : ℕ) → periods_number (world_in b o) p e ≡ 0
    → PeriodsAt (world_in b o) p e place count
    → place + count ≤ length o.links
periods-inside b o p e place count h k =
    let fits = (pair_asked b o p e h).0.fits in
    let within = k.within in
    omega arith

pub periods-refused : (w : World) (p e : ℕ) → periods_number w p e ≢ 0 → ([] ≡ periods_query w p e) × (0 ≡ periods_read w p e)
unfolding periods_query periods_read
periods-refused w p e h = (rw (ne_eqb _ _ h), rw (ne_eqb _ _ h))
