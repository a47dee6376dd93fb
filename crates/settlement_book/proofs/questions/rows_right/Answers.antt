-- The tests of the tables of rows, one by one.
use mathlib.Core.Path.{◌≡◌, sym, ◌∙◌}
use mathlib.Core.Bool.{◌&&◌}
use Rattle.rules.specs.Lent.{lists_of, lent_opening, lent_tables}
use Rattle.rules.specs.WellFormed.{links_right, holders_right, states_right}
use Rattle.settlement_book.proofs.Measures.{and_then, and_else, and_third, and_stops}
use Rattle.settlement_book.proofs.questions.rows_right.Goals as goal
use Rattle.settlement_book.proofs.questions.rows_right.Goals.{then-links_right, else-links_right}

pub returns-then-holders_right : goal.returns-then-holders_right
returns-then-holders_right c =
    let l = c.args.lent.now in
    let o = lent_opening l in
    let t = lent_tables l in
    let k : c.links_right.result ≡ links_right o t.links = c.links_right.ensures (lists_of l) in
    let v : c.if-links_right.value ≡ (links_right o t.links && holders_right o t.holders) =
    elim c.if-links_right.branch [
      | then-links_right w ↦ and_then (links_right o t.links) (holders_right o t.holders) (sym k ∙ w.if-links_right.true)
          (w.value-is ∙ w.holders_right.ensures (lists_of l))
      | else-links_right w ↦ and_else (links_right o t.links) (holders_right o t.holders) (sym k ∙ w.if-links_right.false)
          (w.value-is ∙ w.if-links_right.false)
    ] in
    and_third (links_right o t.links) (holders_right o t.holders) (states_right o t.states) (sym v ∙ c.if-holders_right.true)
    (c.states_right.ensures (lists_of l))

pub returns-else-holders_right : goal.returns-else-holders_right
returns-else-holders_right c =
    let l = c.args.lent.now in
    let o = lent_opening l in
    let t = lent_tables l in
    let k : c.links_right.result ≡ links_right o t.links = c.links_right.ensures (lists_of l) in
    let v : c.if-links_right.value ≡ (links_right o t.links && holders_right o t.holders) =
    elim c.if-links_right.branch [
      | then-links_right w ↦ and_then (links_right o t.links) (holders_right o t.holders) (sym k ∙ w.if-links_right.true)
          (w.value-is ∙ w.holders_right.ensures (lists_of l))
      | else-links_right w ↦ and_else (links_right o t.links) (holders_right o t.holders) (sym k ∙ w.if-links_right.false)
          (w.value-is ∙ w.if-links_right.false)
    ] in
    and_stops (links_right o t.links) (holders_right o t.holders) (states_right o t.states) (sym v ∙ c.if-holders_right.false)
    c.if-holders_right.false
