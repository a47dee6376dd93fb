-- An opened world is whole, agrees with fresh settlement that has heard nothing, and all its lines are 0.
use mathlib.Core.Path.{◌≡◌, refl}
use Prim.Native.Nat.{ℕ, ◌+◌, ◌*◌, ◌≤◌}
use mathlib.Core.Bool.{true}
use mathlib.Core.List.{[]}
use Rattle.std.specs.Prelude.{None}
use lib.IntN.{pos}
use lib.ListN.{replicate, length-replicate}
use lib.Dec.{leb}
use borrow.Author.Tests.{eq-eqb}
use native.Mathlib.Omega.{arith}
use Rattle.integers.proofs.Sums.{sum-zero}
use Rattle.rules.specs.Sizes.{line_size, most_energy}
use Rattle.rules.specs.Basics.{within, chained, all_in, latest}
use Rattle.rules.specs.Lines.{Measure, Terms, line}
use Rattle.rules.specs.World.{Opening, World, table_of, month_first, month_days, month_dates, line_count, energy_of, amount_of}
use Rattle.rules.specs.World.{stored_at, stored}
use Rattle.rules.specs.WellFormed.{within_limits, rows_fit, reading_count, line_places, opening_sized, tables_sized}
use Rattle.rules.specs.WellFormed.{lines_sized, line_limit}
use Rattle.rules.specs.WellFormed.{line_right, lines_right, links_right, holders_right, states_right, question2, question3, question4}
use Rattle.rules.specs.WellFormed.{dates_right, question5}
use Rattle.rules.specs.Opening.{opening_answer, opened}
use Rattle.rules.specs.Fresh.{nothing, fresh_facts}
use Rattle.rules.proofs.Tests.{both}
use Rattle.rules.proofs.Ranges.{all_true, all_same, get_d_same, latest_none}
use Rattle.rules.proofs.Clauses.{quantity-nil, starts_nil, recorded_nil}
use Rattle.rules.proofs.LineLaws.{point_line_none}
use Rattle.rules.proofs.Parts.{rows_table, table_right_lem, tables-right}
use Rattle.rules.specs.Whole.{Whole}
use Rattle.rules.proofs.Passed.{asked_passed}
use Rattle.rules.proofs.Agree.{Agree}

stored-zero : (n : ℕ) (m : Measure) (i : ℕ) → stored_at (replicate n (pos 0)) m i ≡ pos 0
unfolding stored_at amount_of
stored-zero n Measure.quantity i = get_d_same n i (pos 0)
stored-zero n Measure.amount i = rw (get_d_same n (i + 1) (pos 0), get_d_same n (i + 2) (pos 0))

lines-zero : (o : Opening) (n : ℕ) → lines_right o (replicate n (pos 0)) ≡ true
unfolding lines_right line_right line_limit
lines-zero o n = all_true _ (line_count o)
    (λ k l. rw (
      stored-zero n Measure.quantity (k * line_size),
      stored-zero n Measure.amount (k * line_size),
      get_d_same n (k * line_size + 2) (pos 0),
    ))

sized-zero : (o : Opening) → lines_sized o (replicate (line_places o) (pos 0)) ≡ true
unfolding lines_sized
sized-zero o = rw length-replicate (eq-eqb (line_places o) (line_places o) refl)

-- what an opening has passed
pub record Passed (w : World) : Type 0 where
  pub limited : question2 w ≡ true
  pub sized : question3 w ≡ true
  pub elements : question4 w ≡ true

pub passed : (w : World) → opening_answer w ≡ 0 → Passed w
unfolding opening_answer
passed w e =
    let a2 = asked_passed (question2 w) 2 _ 0 (λ k. omega arith) e in
    let a3 = asked_passed (question3 w) 3 _ 0 (λ k. omega arith) a2.1 in
    let a4 = asked_passed (question4 w) 4 0 0 (λ k. omega arith) a3.1 in
    record { limited = a2.0; sized = a3.0; elements = a4.0 }

dates-own : (o : Opening) → dates_right o (month_dates o) ≡ true
unfolding dates_right
dates-own o = rw (eq-eqb (month_first o) (month_first o) refl) (eq-eqb (month_days o) (month_days o) refl)

module _ (w : World) where
  begin-tables : tables_sized w.opening (opened w).position.tables ≡ true
  unfolding tables_sized opened table_of
  begin-tables = rw (length-replicate, eq-eqb (reading_count w.opening) (reading_count w.opening) refl)
      (rw length-replicate (eq-eqb w.opening.points w.opening.points refl))

  pub begin-whole : Passed w → Whole (opened w)
  unfolding question2 question3 question4 question5 opened
  begin-whole h = record {
    limited = rw (both (within_limits w.opening) _ h.limited).0 (unfold rows_fit table_of in refl);
    sized = rw ((both (opening_sized w.opening) _ h.sized).0, begin-tables) (rw (sized-zero w.opening));
    elements = h.elements;
    right = rw (
      tables-right w.opening (opened w).position.tables record {
        links = unfold links_right in table_right_lem _ _ [] (unfold chained in refl) (unfold all_in in refl);
        holders = unfold holders_right in table_right_lem _ _ [] (unfold chained in refl) (unfold all_in in refl);
        states = unfold states_right in table_right_lem _ _ [] (unfold chained in refl) (unfold all_in in refl);
        readings = all_same (λ x. leb x most_energy) (reading_count w.opening) 0 refl;
        blocks = all_same (λ x. leb x 1) w.opening.points 0 refl;
      },
      lines-zero w.opening (line_places w.opening),
    ) (unfold within in dates-own w.opening);
  }

  pub begin-agree : Agree w.opening (opened w).position.tables nothing
  unfolding opened nothing
  begin-agree = record {
    holder = λ p d. rw (rows_table [], recorded_nil);
    state = λ p d. rw (rows_table [], recorded_nil);
    quantity = λ p e d. rw (rows_table [], quantity-nil);
    start = λ p e d. rw (rows_table [], starts_nil);
    reading = λ p d h a b c k. unfold energy_of in get_d_same (reading_count w.opening) _ 0;
  }

  pub begin-line : (m : Measure) (s e : ℕ) → stored w.opening (opened w).position.lines m s e ≡ pos 0
  unfolding opened stored
  begin-line m s e = stored-zero (line_places w.opening) m _

  pub begin-sent : (m : Measure) (s e : ℕ) → stored w.opening (opened w).sent.totals m s e ≡ pos 0
  unfolding opened stored
  begin-sent m s e = stored-zero (line_places w.opening) m _

-- nobody holds a point that nothing was heard of
pub line-nothing : (t : Terms) (m : Measure) (s e : ℕ) → 1 ≤ s → line t (fresh_facts nothing) m s e ≡ pos 0
unfolding line fresh_facts nothing
line-nothing t m s e h =
    sum-zero _ t.points (λ p k. point_line_none t (fresh_facts nothing) m s p e
    (λ i j q. let z : latest (λ x. None) (t.first + i) ≡ 0 = latest_none (t.first + i) in omega arith))
