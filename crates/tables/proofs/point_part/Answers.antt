-- `tables::point_part` meets its contract: the rows of the point stand between the places of its first word and of the next point's.
use Rattle.std.proofs.Common.{sym, ◌≤◌}
use Rattle.tables.specs.RowRange.{point_rows}
use Rattle.tables.proofs.Order.{run_rising}
use Rattle.tables.proofs.RowRange.{range-order, keep-range, point_between}
use Rattle.tables.proofs.point_part.Goals as goal
use Rattle.tables.proofs.point_part.Goals.{After-place-to}

in_order : (c : After-place-to) → c.place-from.result ≤ c.place-to.result
in_order c = rw (c.place-from.ensures.is, c.place-to.ensures.is) (range-order (point_between c.args.point) c.args.rows.now)

pub place-from-requires : goal.place-from-requires
place-from-requires c = run_rising c.requires.period_rows

pub place-to-requires : goal.place-to-requires
place-to-requires c = run_rising c.requires.period_rows

pub slice_bounds-result-count : goal.slice_bounds-result-count
slice_bounds-result-count c = in_order c

pub slice_bounds-result-start : goal.slice_bounds-result-start
slice_bounds-result-start c = in_order c

pub returns : goal.returns
unfolding point_rows
returns c =
    rw (c.place-from.ensures.is, c.place-to.ensures.is)
    (sym (keep-range (point_between c.args.point) (run_rising c.requires.period_rows)))
