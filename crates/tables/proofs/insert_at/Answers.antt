-- `tables::insert_at` meets its contract: the rows behind the place have moved down by one.
use Rattle.tables.proofs.Parts.{table_put}
use Rattle.tables.proofs.insert_at.Goals as goal

pub returns : goal.returns
returns c =
    let a = c.args in
    let h = c.requires.at_le_used in
    rw c.shift_down.ensures (table_put a.table.now a.used c.requires.clear_behind a.at a.word h.0 h.1)
