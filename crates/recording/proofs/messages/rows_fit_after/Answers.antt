-- Each message by the number of rows that it adds.
use Rattle.rules.specs.Lent.{lists_of}
use Rattle.recording.proofs.Counts.{link_count, quantity-count, holder-count, state-count, rest-count}
use Rattle.recording.proofs.messages.rows_fit_after.Goals as goal

pub returns-in-Link : goal.returns-in-Link
returns-in-Link c =
    let l = c.args.lent.now in
    link_count l.book (lists_of l) c.requires.table_rows _ c.requires.row_fits _ _ _ _ c.in-Link.is _ c.has_room.ensures

pub returns-in-Quantity : goal.returns-in-Quantity
returns-in-Quantity c =
    let l = c.args.lent.now in
    quantity-count l.book (lists_of l) c.requires.table_rows _ c.requires.row_fits _ _ _ _ c.in-Quantity.is _ _ c.starts_on.ensures
    c.has_room-in-Quantity.ensures

pub returns-in-Holder : goal.returns-in-Holder
returns-in-Holder c =
    let l = c.args.lent.now in
    holder-count l.book (lists_of l) c.requires.table_rows _ c.requires.row_fits _ _ _ c.in-Holder.is _ _ c.recorded.ensures
    c.has_room-in-Holder.ensures

pub returns-in-State : goal.returns-in-State
returns-in-State c =
    let l = c.args.lent.now in
    state-count l.book (lists_of l) c.requires.table_rows _ c.requires.row_fits _ _ _ c.in-State.is _ _ c.recorded-in-State.ensures
    c.has_room-in-State.ensures

pub returns-in_default : goal.returns-in_default
returns-in_default c =
    let l = c.args.lent.now in
    let d = c.in_default in
    rest-count l.book (lists_of l) c.requires.table_rows _ c.requires.row_fits d.not-Link d.not-Quantity d.not-Holder d.not-State
