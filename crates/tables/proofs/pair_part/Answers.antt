-- `tables::pair_part` meets its contract: the rows of the pair stand between the places of its first word and of the next pair's.
use Rattle.std.proofs.Common.{sym, ◌≤◌}
use Rattle.rules.specs.Rows.{pair_rows}
use Rattle.tables.proofs.Order.{run_rising}
use Rattle.tables.proofs.RowRange.{range-order, keep-range}
use Rattle.tables.proofs.Pairs.{pair_between}
use Rattle.tables.proofs.pair_part.Goals as goal
use Rattle.tables.proofs.pair_part.Goals.{After-place-to}

in_order : (c : After-place-to) → c.place-from.result ≤ c.place-to.result
in_order c =
    rw (c.place-from.ensures.is, c.place-to.ensures.is, c.pack_period.ensures, c.pair_bound.ensures)
    (range-order (pair_between _ _ c.requires.pair_fits.element) c.args.rows.now)

pub place-from-requires : goal.place-from-requires
place-from-requires c = run_rising c.requires.period_rows

pub place-to-requires : goal.place-to-requires
place-to-requires c = run_rising c.requires.period_rows

pub slice_bounds-result-count : goal.slice_bounds-result-count
slice_bounds-result-count c = in_order c

pub slice_bounds-result-start : goal.slice_bounds-result-start
slice_bounds-result-start c = in_order c

pub returns : goal.returns
unfolding pair_rows
returns c =
    rw (c.place-from.ensures.is, c.place-to.ensures.is, c.pack_period.ensures, c.pair_bound.ensures)
    (sym (keep-range (pair_between _ _ c.requires.pair_fits.element) (run_rising c.requires.period_rows)))
