-- The lengths of the rules, one after the other.
use native.Mathlib.Omega.{arith}
use Rattle.rules.specs.WellFormed.{question3}
use Rattle.rules.proofs.Tests.{tests}
use Rattle.settlement_book.proofs.questions.is_sized.Goals as goal
use Rattle.settlement_book.proofs.questions.is_sized.Goals.{then-opening_sized, else-opening_sized}

pub returns-then-tables_sized : goal.returns-then-tables_sized
unfolding question3
returns-then-tables_sized c o e =
    let p = c.opening_sized.ensures o e in
    let l = c.lines_sized.ensures o e in
    elim c.if-opening_sized.branch [
      | then-opening_sized w ↦ let t = w.tables_sized.ensures o e in grind (arith, tests)
      | else-opening_sized w ↦ grind (arith, tests)
    ]

pub returns-else-tables_sized : goal.returns-else-tables_sized
unfolding question3
returns-else-tables_sized c o e =
    let p = c.opening_sized.ensures o e in
    elim c.if-opening_sized.branch [
      | then-opening_sized w ↦ let t = w.tables_sized.ensures o e in grind (arith, tests)
      | else-opening_sized w ↦ grind (arith, tests)
    ]
