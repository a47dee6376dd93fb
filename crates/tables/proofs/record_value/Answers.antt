-- `tables::record_value` meets its contract: a row of the point and day is replaced, else the word goes in where the rows of later days
-- begin.
use Prim.Native.Nat.{◌/◌, ◌<◌}
use mathlib.Core.Path.{◌≡◌}
use lib.ListN.{get_or}
use native.Mathlib.Omega.{arith}
use Rattle.tables.proofs.Order.{values_rising}
use Rattle.tables.proofs.Parts.{rows_long}
use Rattle.tables.proofs.Values.{record_replaced, record_longer, record_put}
use Rattle.tables.proofs.record_value.Goals as goal
use Rattle.tables.proofs.record_value.Goals.{else-at-used-via-then-at-used+else-table-at, else-at-used-via-else-at-used}

pub place-at-requires : goal.place-at-requires
place-at-requires c = values_rising c.args.size c.requires.size_nonzero c.requires.value_rows.order

pub returns-then-table-at : goal.returns-then-table-at
returns-then-table-at c =
    let a = c.args in
    record_replaced a.size c.requires.size_nonzero a.word c.requires.clear_behind c.place-at.ensures.is c.if-at-used.true c.if-table-at.true

pub insert_at-requires : goal.insert_at-requires
insert_at-requires c =
    let a = c.args in
    let b = c.requires.clear_behind in
    let r = rows_long a.table.now a.used b in
    let k = c.place-at.ensures.within in
    let new : c.place-at.result < a.used → get_or a.table.now c.place-at.result 0 / a.size ≡ a.word / a.size → ⊥
    = λ h e. elim c.else-at-used.branch [
      | else-at-used-via-then-at-used+else-table-at w ↦ w.if-table-at.false e
      | else-at-used-via-else-at-used w ↦ omega arith
    ] in
    let l = record_longer a.size c.requires.size_nonzero a.word b c.place-at.ensures.is new in
    record { clear_behind = b; at_le_used = (omega arith, omega arith) }

pub returns : goal.returns
returns c =
    let a = c.args in
    let new : c.place-at.result < a.used → get_or a.table.now c.place-at.result 0 / a.size ≡ a.word / a.size → ⊥
    = λ h e. elim c.else-at-used.branch [
      | else-at-used-via-then-at-used+else-table-at w ↦ w.if-table-at.false e
      | else-at-used-via-else-at-used w ↦ omega arith
    ] in
    record_put a.size c.requires.size_nonzero a.word c.requires.clear_behind c.place-at.ensures.is new _ c.insert_at.ensures
