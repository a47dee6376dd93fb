-- `tables::value_on` meets its contract: the last row by the day is in force, if it is of the point.
use Rattle.std.proofs.Common.{◌≡◌, ◌-◌, ◌∙◌, sym, take, length, slice_get, None, arith, rules}
use borrow.Author.Tests.{eq-eqb, ne_eqb}
use Rattle.tables.proofs.Order.{values_rising}
use Rattle.tables.proofs.Values.{value_found}
use Rattle.tables.proofs.value_on.Goals as goal
use Rattle.tables.proofs.value_on.Goals.{After-place-after}

pub place-after-requires : goal.place-after-requires
place-after-requires c = values_rising c.args.size c.requires.point_fits.some c.requires.dated_rows

pub returns-in-Some : goal.returns-in-Some
returns-in-Some c =
    let a = c.args in
    let after = rw c.pack_value.ensures at c.place-after.ensures.is in
    let t = eq-eqb _ _ (sym c.value_point_of.ensures ∙ c.if-value_point_of-point.true) in
    rw (value_found a.size a.point c.requires.point_fits a.day (omega arith) c.requires.dated_rows _ after, ← c.in-Some.ensures.value, t)
    c.value_of.ensures

pub returns-in_default : goal.returns-in_default
returns-in_default c =
    let a = c.args in
    let after = rw c.pack_value.ensures at c.place-after.ensures.is in
    let t = ne_eqb _ _ (λ e. c.if-value_point_of-point.false (c.value_point_of.ensures ∙ e)) in
    rw (value_found a.size a.point c.requires.point_fits a.day (omega arith) c.requires.dated_rows _ after, ← c.in-Some.ensures.value, t)

pub returns-in_default-2 : goal.returns-in_default-2
returns-in_default-2 c =
    let a = c.args in
    let after = rw c.pack_value.ensures at c.place-after.ensures.is in
    let rows = take c.place-after.result a.rows.now in
    let none : slice_get rows (length rows - 1) ≡ None = search rules in
    rw (value_found a.size a.point c.requires.point_fits a.day (omega arith) c.requires.dated_rows _ after, none)
