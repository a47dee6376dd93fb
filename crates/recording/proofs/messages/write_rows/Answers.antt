-- Each message by the table that it writes; what it leaves alone is as it was lent.
use Rattle.rules.specs.Lent.{open_lists}
use Rattle.recording.proofs.Counts.{link_room, quantity-room, holder-room, state-room}
use Rattle.recording.proofs.Leaves.{link_left, stop_left, quantity-left, holder-left, state-left}
use Rattle.recording.proofs.messages.write_rows.Goals as goal

pub write_period-requires-clause-link_rows : goal.write_period-requires-clause-link_rows
write_period-requires-clause-link_rows c =
    let b = c.args.opened.now in
    let r = c.requires in (
      r.table_rows.links,
      r.table_rows.links-clear,
      link_room b.book (open_lists b) r.table_rows _ r.row_fits.0 r.body_value _ _ _ _ c.in-Link.is,
    )

pub split-requires-clause-table_len_bound : goal.split-requires-clause-table_len_bound
split-requires-clause-table_len_bound c =
    let b = c.args.opened.now in
    let r = c.requires in
    quantity-room b.book (open_lists b) r.table_rows _ r.row_fits.0 r.body_value _ _ _ _ c.in-Quantity.is

pub write_value-requires-clause-table_len_bound : goal.write_value-requires-clause-table_len_bound
write_value-requires-clause-table_len_bound c =
    let b = c.args.opened.now in
    let r = c.requires in
    holder-room b.book (open_lists b) r.table_rows _ r.row_fits.0 r.body_value _ _ _ c.in-Holder.is

pub write_value-requires-in-State-clause-table_len_bound : goal.write_value-requires-in-State-clause-table_len_bound
write_value-requires-in-State-clause-table_len_bound c =
    let b = c.args.opened.now in
    let r = c.requires in
    state-room b.book (open_lists b) r.table_rows _ r.row_fits.0 r.body_value _ _ _ c.in-State.is

pub returns-in-Link-clause-recorded : goal.returns-in-Link-clause-recorded
returns-in-Link-clause-recorded c e =
    let b = c.args.opened.now in
    link_left b.book (open_lists b) _ _ _ _ _ c.in-Link.is e c.write_period.ensures

pub returns-in-Stop-clause-recorded : goal.returns-in-Stop-clause-recorded
returns-in-Stop-clause-recorded c e =
    let b = c.args.opened.now in
    stop_left b.book (open_lists b) _ _ _ c.in-Stop.is c.stop.ensures

pub returns-in-Quantity-clause-recorded : goal.returns-in-Quantity-clause-recorded
returns-in-Quantity-clause-recorded c e =
    let b = c.args.opened.now in
    quantity-left b.book (open_lists b) _ _ _ _ c.in-Quantity.is c.split.ensures

pub returns-in-Holder-clause-recorded : goal.returns-in-Holder-clause-recorded
returns-in-Holder-clause-recorded c e =
    let b = c.args.opened.now in
    holder-left b.book (open_lists b) _ _ _ c.in-Holder.is c.write_value.ensures

pub returns-in-State-clause-recorded : goal.returns-in-State-clause-recorded
returns-in-State-clause-recorded c e =
    let b = c.args.opened.now in
    state-left b.book (open_lists b) _ _ _ c.in-State.is c.write_value-in-State.ensures
