-- `tables::links_right` meets its contract: the three tests of the definition.
use Rattle.std.proofs.Common.{arith}
use Rattle.std.proofs.lemmas.Grind.{common_steps}
use Rattle.rules.specs.Lent.{lend_data}
use Rattle.tables.proofs.Right.{links_tests}
use Rattle.tables.proofs.links_right.Goals as goal

pub returns-then-periods_right : goal.returns-then-periods_right
returns-then-periods_right c o =
    let a = c.args in
    let e = links_tests a.book (lend_data a.element_data.now o) a.used a.table.now in
    grind (arith, common_steps, e)

pub returns-else-periods_right : goal.returns-else-periods_right
returns-else-periods_right c o =
    let a = c.args in
    let e = links_tests a.book (lend_data a.element_data.now o) a.used a.table.now in
    grind (arith, common_steps, e)
