-- `tables::split` meets its contract: no row, one row or two in place of the row that covers the day.
use Prim.Native.Nat.{ℕ}
use mathlib.Core.Path.{◌≡◌, sym, ◌∙◌}
use lib.ListN.{get_or}
use native.Mathlib.Omega.{arith}
use Rattle.rules.specs.Rows.{pack_period, period_first, period_end, period_quantity}
use Rattle.rules.proofs.Words.{first_lt, end_lt, quantity_lt}
use Rattle.tables.proofs.Parts.{clear-set}
use Rattle.tables.proofs.Days.{split_stays, split_inside, split_replaced, split_longer, split_put}
use Rattle.tables.proofs.split.Goals as goal
use Rattle.tables.proofs.split.Goals.{In-Some, After-pack_period, After-pack_period-from_day, Else-first_of-day}

abbrev row : In-Some → ℕ
row c = get_or c.args.table.now c.in-Some.at 0

later : (c : After-pack_period-from_day) →
    let a = c.args in
    let w = get_or a.table.now c.in-Some.at 0 in
    c.pack_period-from_day.result ≡ pack_period a.point a.element a.day (period_end w) a.quantity
later c = rw c.end_of.ensures at c.pack_period-from_day.ensures

earlier : (c : After-pack_period) →
    let a = c.args in
    let w = get_or a.table.now c.in-Some.at 0 in
    c.pack_period.result ≡ pack_period a.point a.element (period_first w) a.day (period_quantity w)
earlier c = rw (c.first_of-2.ensures, c.quantity_of.ensures) at c.pack_period.ensures

starts_before : (c : Else-first_of-day) → period_first (get_or c.args.table.now c.in-Some.at 0) ≡ c.args.day → ⊥
starts_before c z = c.if-first_of-day.false (c.first_of.ensures ∙ z)

pub returns-in_default : goal.returns-in_default
returns-in_default c = let a = c.args in split_stays a.point a.element a.day a.quantity c.requires.clear_behind (sym c.in_default.ensures)

pub pack_period-from_day-requires : goal.pack_period-from_day-requires
pack_period-from_day-requires c =
    let w = end_lt (get_or c.args.table.now c.in-Some.at 0) in
    (omega arith, omega arith, omega arith, omega arith, omega arith)

pub returns-then-first_of-day : goal.returns-then-first_of-day
returns-then-first_of-day c =
    let a = c.args in
    let t = goal.at.returns-then-first_of-day c in
    split_replaced a.point a.element a.day a.quantity c.requires.clear_behind (sym c.in-Some.ensures) _
    (sym c.first_of.ensures ∙ c.if-first_of-day.true) (later t.After-pack_period-from_day)

pub pack_period-requires : goal.pack_period-requires
pack_period-requires c =
    let w = get_or c.args.table.now c.in-Some.at 0 in
    let f = first_lt w in
    let q = quantity_lt w in
    (omega arith, omega arith, omega arith, omega arith, omega arith)

pub insert_at-requires : goal.insert_at-requires
insert_at-requires c =
    let a = c.args in
    let t = goal.at.insert_at-requires c in
    let b = c.requires.clear_behind in
    let i = split_inside a.point a.element a.day a.quantity b (sym c.in-Some.ensures) in
    let l = split_longer a.point a.element a.day a.quantity b (sym c.in-Some.ensures) (starts_before t.Else-first_of-day)
    (later t.After-pack_period-from_day) (earlier t.After-pack_period) in
    record { clear_behind = clear-set a.table.now a.used b _ _ i; at_le_used = (omega arith, omega arith) }

pub returns : goal.returns
returns c =
    let a = c.args in
    let t = goal.at.returns c in
    split_put a.point a.element a.day a.quantity c.requires.clear_behind (sym c.in-Some.ensures) (starts_before t.Else-first_of-day)
    (later t.After-pack_period-from_day) (earlier t.After-pack_period) _ c.insert_at.ensures
