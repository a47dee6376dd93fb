-- `tables::covering_place` meets its contract: only the last row that starts by the day can cover it.
use Rattle.std.proofs.Common.{◌≡◌, ◌+◌, ◌∙◌, sym, get_or, arith}
use Rattle.rules.proofs.Tests.{cases}
use Rattle.rules.specs.Rows.{pack_period, covers}
use Rattle.tables.specs.Search.{rows_below}
use Rattle.tables.proofs.Order.{run_rising}
use Rattle.tables.proofs.Days.{covering_missed, covering_found}
use Rattle.tables.proofs.covering_place.Goals as goal

pub place-requires : goal.place-requires
place-requires c = run_rising c.requires.period_rows

pub returns-in_err-last : goal.returns-in_err-last
returns-in_err-last c =
    let a = c.args in
    let i = rw c.pack_period.ensures at c.place.ensures.is in
    c.from_residual.ensures
    ∙ sym (covering_missed a.point a.element a.day c.requires.period_rows (omega (arith, c.in_err-last.ensures)))

pub returns : goal.returns
returns c =
    let a = c.args in
    let e = c.in_ok-last.ensures in
    let last = c.in_ok-last.last in
    let i = rw c.pack_period.ensures at c.place.ensures.is in
    let j : rows_below (pack_period a.point a.element (a.day + 1) 0 0) a.rows.now ≡ last + 1 = omega (arith, e.0, e.1) in
    rw (c.then_some.ensures, c.covers_day.ensures, covering_found a.point a.element a.day c.requires.period_rows last j)
    (cases (covers a.point a.element a.day (get_or a.rows.now last 0)) (λ t. rw t) (λ t. rw t))
