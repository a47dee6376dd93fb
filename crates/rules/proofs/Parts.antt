-- What questions 2 to 5 say, as facts, and back.
use Prim.Native.Nat.{ℕ, ◌-◌, ◌*◌, ◌≤◌}
use mathlib.Core.Path.{◌≡◌, refl}
use mathlib.Core.Bool.{Bool, true}
use mathlib.Core.List.{List}
use lib.ListN.{length, replicate}
use lib.Seq.{take-append_seam, drop-append_seam}
use lib.Dec.{leb, eqb}
use borrow.Author.Tests.{eqb-true, leb-true}
use native.Mathlib.Nat.{mul-le-mul_right}
use native.Mathlib.Omega.{arith}
use Rattle.rules.specs.Basics.{within, chained, all_in}
use Rattle.rules.specs.declared.Book.{Book}
use Rattle.rules.specs.World.{Opening, Table, Tables, World, rows_of, table_of, month_first, month_days}
use Rattle.rules.specs.Lent.{Lists, world_in}
use Rattle.rules.specs.Sizes.{element_size, places, price_places}
use Rattle.rules.specs.Sizes.{first_year, last_month, last_year, most_elements, most_energy, most_lines, most_points, most_suppliers}
use Rattle.rules.specs.WellFormed.{within_limits, rows_fit, reading_count, line_places, opening_sized, tables_sized, lines_sized}
use Rattle.rules.specs.WellFormed.{period_right, apart, table_right, links_right, holders_right, states_right, tables_right, lines_right}
use Rattle.rules.specs.WellFormed.{dates_right, question2, question3, question5}
use Rattle.rules.proofs.Tests.{both}
use Rattle.rules.proofs.Ranges.{within_low, within-high, all_same}
use Rattle.rules.specs.Order.{Run}
use Rattle.rules.proofs.PeriodsRight.{run-rows}
use Rattle.rules.specs.Whole.{Limits, Dated, TablesRight, Whole}

pub limits : (o : Opening) → within_limits o ≡ true → Limits o
unfolding within_limits
limits o h =
    let h1 = both (within first_year last_year o.year) _ h in
    let h2 = both (within 1 last_month o.month) _ h1.1 in
    let h3 = both (within 1 most_points o.points) _ h2.1 in
    let h4 = both (within 1 most_suppliers o.suppliers) (within 1 most_elements o.elements) h3.1 in
    record {
      month = record {
        first-year = within_low first_year last_year o.year h1.0;
        last-year = within-high first_year last_year o.year h1.0;
        january = within_low 1 last_month o.month h2.0;
        december = within-high 1 last_month o.month h2.0;
      };
      points = within-high 1 most_points o.points h3.0;
      suppliers = within-high 1 most_suppliers o.suppliers h4.0;
      elements = within-high 1 most_elements o.elements h4.1;
    }

pub few-lines : (suppliers elements : ℕ) → suppliers ≤ most_suppliers → elements ≤ most_elements → suppliers * elements ≤ most_lines
few-lines s e h l = omega (arith, mul-le-mul_right e h)

-- ---- questions 2 and 3: the counts and lengths of every table

pub record Lengths (w : World) : Type 0 where
  pub limited : Limits w.opening
  pub element_data : length w.opening.element_data ≡ w.opening.elements * element_size
  pub prices : length w.opening.prices ≡ w.opening.elements * price_places
  pub links : (w.position.tables.links.used ≤ places) × (length w.position.tables.links.words ≡ places)
  pub holders : (w.position.tables.holders.used ≤ places) × (length w.position.tables.holders.words ≡ places)
  pub states : (w.position.tables.states.used ≤ places) × (length w.position.tables.states.words ≡ places)
  pub readings : length w.position.tables.readings ≡ reading_count w.opening
  pub blocks : length w.position.tables.blocks ≡ w.opening.points
  pub lines : length w.position.lines ≡ line_places w.opening
  pub sent : length w.sent.totals ≡ line_places w.opening

pub lengths_asked : (w : World) → question2 w ≡ true → question3 w ≡ true → Lengths w
unfolding question2 rows_fit question3 opening_sized tables_sized lines_sized
lengths_asked w limited sized =
    let o = w.opening in
    let t = w.position.tables in
    let f = both (within_limits o) (rows_fit t) limited in
    let f1 = both (leb t.links.used places) _ f.1 in
    let f2 = both (leb t.holders.used places) (leb t.states.used places) f1.1 in
    let h = both (opening_sized o) _ sized in
    let h0 = both (eqb (length o.element_data) (o.elements * element_size)) _ h.0 in
    let h1 = both (tables_sized o t) _ h.1 in
    let h2 = both (lines_sized o w.position.lines) (lines_sized o w.sent.totals) h1.1 in
    let t1 = both (eqb (length t.links.words) places) _ h1.0 in
    let t2 = both (eqb (length t.holders.words) places) _ t1.1 in
    let t3 = both (eqb (length t.states.words) places) _ t2.1 in
    let t4 = both (eqb (length t.readings) (reading_count o)) (eqb (length t.blocks) o.points) t3.1 in
    record {
      limited = limits o f.0;
      element_data = eqb-true _ _ h0.0;
      prices = eqb-true _ _ h0.1;
      links = (leb-true _ _ f1.0, eqb-true _ _ t1.0);
      holders = (leb-true _ _ f2.0, eqb-true _ _ t2.0);
      states = (leb-true _ _ f2.1, eqb-true _ _ t3.0);
      readings = eqb-true _ _ t4.0;
      blocks = eqb-true _ _ t4.1;
      lines = eqb-true _ _ h2.0;
      sent = eqb-true _ _ h2.1;
    }

pub lengths : (w : World) → Whole w → Lengths w
lengths w c = lengths_asked w c.limited c.sized

-- ---- question 5: a table of rows

pub rows_table : (rows : List ℕ) → rows_of (table_of rows) ≡ rows
unfolding rows_of table_of
rows_table rows = take-append_seam rows (replicate (places - length rows) 0)

module _ (order : ℕ → ℕ → Bool) (right : ℕ → Bool) where
  pub table_ordered : (t : Table) → table_right order right t ≡ true → chained order (rows_of t) ≡ true
  unfolding table_right
  table_ordered t h = (both (chained order (rows_of t)) _ h).0

  pub table_each : (t : Table) → table_right order right t ≡ true → all_in right (rows_of t) ≡ true
  unfolding table_right
  table_each t h = (both (all_in right (rows_of t)) _ (both (chained order (rows_of t)) _ h).1).0

  -- rows in order, each right by itself, make a right table
  pub table_right_lem : (rows : List ℕ) → chained order rows ≡ true → all_in right rows ≡ true
      → table_right order right (table_of rows) ≡ true
  unfolding table_right
  table_right_lem rows c a = rw (rows_table rows, c, a)
      (unfold table_of in rw (drop-append_seam rows (replicate (places - length rows) 0))
      (all_same (λ x. eqb x 0) (places - length rows) 0 refl))

pub tables_parts : (o : Opening) (t : Tables) → tables_right o t ≡ true → TablesRight o t
unfolding tables_right
tables_parts o t h =
    let h1 = both (links_right o t.links) _ h in
    let h2 = both (holders_right o t.holders) _ h1.1 in
    let h3 = both (states_right o t.states) _ h2.1 in
    let h4 = both (all_in (λ x. leb x most_energy) t.readings) (all_in (λ x. leb x 1) t.blocks) h3.1 in
    record { links = h1.0; holders = h2.0; states = h3.0; readings = h4.0; blocks = h4.1 }

-- every part of question 5
pub record Formed (w : World) : Type 0 where
  pub tables : TablesRight w.opening w.position.tables
  pub lines : lines_right w.opening w.position.lines ≡ true
  pub sent : lines_right w.opening w.sent.totals ≡ true
  pub round : within 1 3 w.sent.round ≡ true
  pub dates : dates_right w.opening w.dates ≡ true

pub formed : (w : World) → Whole w → Formed w
unfolding question5
formed w c =
    let r = both (tables_right w.opening w.position.tables) _ c.right in
    let l = both (lines_right w.opening w.position.lines) _ r.1 in
    let s = both (lines_right w.opening w.sent.totals) _ l.1 in
    let d = both (within 1 3 w.sent.round) (dates_right w.opening w.dates) s.1 in
    record { tables = tables_parts w.opening w.position.tables r.0; lines = l.0; sent = s.0; round = d.0; dates = d.1 }

-- a well-formed book has the first day and the days of its month
pub dated : (b : Book) (t : Lists) → Whole (world_in b t) → Dated b
unfolding question2 dates_right month_first month_days
dated b t c =
    let w = world_in b t in
    let d = both (eqb b.first (month_first w.opening)) (eqb b.days (month_days w.opening)) (formed w c).dates in
    record {
      month = (limits w.opening (both (within_limits w.opening) _ c.limited).0).month;
      first = eqb-true _ _ d.0;
      days = eqb-true _ _ d.1;
    }

pub tables-right : (o : Opening) (t : Tables) → TablesRight o t → tables_right o t ≡ true
unfolding tables_right
tables-right o t r = rw (r.links, r.holders, r.states, r.readings, r.blocks)

pub links-each : (o : Opening) (t : Table) → links_right o t ≡ true → all_in (period_right o) (rows_of t) ≡ true
unfolding links_right
links-each o t h = table_each apart (period_right o) t h

pub links-run : (o : Opening) (t : Table) → links_right o t ≡ true → Run 0 (rows_of t)
unfolding links_right
links-run o t h = run-rows o (rows_of t) (table_ordered apart (period_right o) t h) (table_each apart (period_right o) t h)
