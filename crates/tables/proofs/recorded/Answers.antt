-- `tables::recorded` meets its contract: the first row that is not below that day is of the point and day, or none is.
use Rattle.std.proofs.Common.{rules}
use Rattle.tables.proofs.Order.{values_rising}
use Rattle.tables.proofs.Values.{recorded_found}
use Rattle.tables.proofs.recorded.Goals as goal

pub row_from-requires : goal.row_from-requires
row_from-requires c = values_rising c.args.size c.requires.point_fits.some c.requires.dated_rows

pub returns : goal.returns
returns c =
    let a = c.args in
    let e = rw c.pack_value.ensures at c.row_from.ensures in
    rw (recorded_found a.size a.point a.day c.requires.point_fits c.requires.dated_rows, ← e) (search rules)
