-- `tables::remove` meets its contract: the rows behind the gap come back closed up, and the freed places as zeros before the zeros that
-- were there; where no row goes the table is as it was.
use Rattle.tables.proofs.Parts.{table_without, taken_out, none_out}
use Rattle.tables.proofs.remove.Goals as goal

pub returns-then-from-to : goal.returns-then-from-to
returns-then-from-to c =
    let a = c.args in
    none_out a.table.now a.used c.requires.clear_behind a.from a.to c.if-from-to.true

pub returns : goal.returns
returns c =
    let a = c.args in
    let clear = c.requires.clear_behind in
    let order = c.requires.from_le_to.0 in
    let last = c.requires.from_le_to.1 in
    taken_out a.table.now a.used clear a.from a.to order last _
    (rw (c.fill.ensures.after (λ y h. h)) (table_without a.table.now a.used clear a.from a.to order last _ (rw c.close_up.ensures)))
