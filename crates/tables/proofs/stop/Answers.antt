-- `tables::stop` meets its contract: the rows from the place of the day up to the end of the pair go, and the row before is cut.
use Prim.Native.Nat.{◌+◌}
use mathlib.Core.Path.{◌≡◌}
use lib.ListN.{take}
use Rattle.rules.specs.Rows.{pack_period}
use Rattle.tables.specs.Search.{rows_below}
use Rattle.tables.proofs.Order.{run_rising}
use native.Mathlib.Omega.{arith}
use Rattle.tables.proofs.Parts.{rows_long, clear_cut}
use Rattle.tables.proofs.Pairs.{stop_order, stopped}
use Rattle.tables.proofs.stop.Goals as goal
use Rattle.tables.proofs.stop.Goals.{After-place-from, After-place-to}

from : (c : After-place-from) →
    let a = c.args in c.place-from.result ≡ rows_below (pack_period a.point a.element a.day 0 0) (take a.used a.table.now)
from c = rw c.pack_period.ensures at c.place-from.ensures.is

to : (c : After-place-to) →
    let a = c.args in c.place-to.result ≡ rows_below (pack_period a.point (a.element + 1) 0 0 0) (take a.used a.table.now)
to c = rw c.pair_bound.ensures at c.place-to.ensures.is

pub place-from-requires : goal.place-from-requires
place-from-requires c = run_rising c.requires.link_rows.run

pub place-to-requires : goal.place-to-requires
place-to-requires c = run_rising c.requires.link_rows.run

pub remove-requires : goal.remove-requires
remove-requires c =
    let a = c.args in
    let t = goal.at.remove-requires c in
    let m = c.place-from.ensures.within in
    let k = c.place-to.ensures.within in
    let l = rows_long a.table.now a.used c.requires.clear_behind in
    let o = stop_order c.requires.pair_fits c.requires.day_fits a.table.now a.used (from t.After-place-from) (to t.After-place-to) in
    record {
      clear_behind =
          rw c.cut_before.ensures (clear_cut a.point a.element a.day a.table.now a.used _ (omega arith) c.requires.clear_behind);
      from_le_to = (o, omega arith);
    }

pub returns : goal.returns
returns c =
    let a = c.args in
    let t = goal.at.returns c in
    let m = c.place-from.ensures.within in
    let l = rows_long a.table.now a.used c.requires.clear_behind in
    stopped c.requires.pair_fits c.requires.day_fits a.table.now a.used (from t.After-place-from) (to t.After-place-to) (omega arith)
    c.requires.link_rows.run c.cut_before.ensures c.remove.ensures
