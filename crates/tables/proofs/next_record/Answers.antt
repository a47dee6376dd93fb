-- `tables::next_record` meets its contract: the first row from the next day on is the next of the point, or none is.
use Rattle.std.proofs.Common.{◌∙◌, sym}
use borrow.Author.Tests.{eq-eqb, ne_eqb}
use Rattle.tables.proofs.Order.{values_rising}
use Rattle.tables.proofs.Values.{next_found}
use Rattle.tables.proofs.next_record.Goals as goal

pub row_from-requires : goal.row_from-requires
row_from-requires c = values_rising c.args.size c.requires.point_fits.some c.requires.dated_rows

pub returns-in-Some : goal.returns-in-Some
returns-in-Some c =
    let a = c.args in
    let row = rw c.pack_value.ensures at c.in-Some.ensures in
    let t = eq-eqb _ _ (sym c.value_point_of.ensures ∙ c.if-value_point_of-point.true) in
    c.min.ensures ∙ rw (next_found a.size a.point a.day c.requires.point_fits c.requires.dated_rows, ← row, t, c.value_first_of.ensures)

pub returns-in_default : goal.returns-in_default
returns-in_default c =
    let a = c.args in
    let row = rw c.pack_value.ensures at c.in-Some.ensures in
    let t = ne_eqb _ _ (λ e. c.if-value_point_of-point.false (c.value_point_of.ensures ∙ e)) in
    rw (next_found a.size a.point a.day c.requires.point_fits c.requires.dated_rows, ← row, t)

pub returns-in_default-2 : goal.returns-in_default-2
returns-in_default-2 c =
    let a = c.args in
    let none = rw c.pack_value.ensures at c.in_default.ensures in
    rw (next_found a.size a.point a.day c.requires.point_fits c.requires.dated_rows, ← none)
