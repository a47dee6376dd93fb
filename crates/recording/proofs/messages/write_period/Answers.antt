-- The word is the period's, and one row more is in use.
use Rattle.tables.proofs.Order.{run_rising}
use Rattle.tables.proofs.Callers.{inserted}
use lib.Seq.{length-take-le}
use mathlib.Core.Path.{sym}
use Rattle.recording.proofs.messages.write_period.Goals as goal

pub insert-requires-clause-ordered_rows : goal.insert-requires-clause-ordered_rows
insert-requires-clause-ordered_rows c =
    let rows = c.requires.link_rows.0 in
    record { fits = rows.fits; order = run_rising rows.run }

pub returns : goal.returns
returns c =
    let a = c.args in
    let rows = c.requires.link_rows.0 in
    rw (← c.pack_period.ensures)
    (inserted _ _ _ a.used (sym (length-take-le a.used a.links.now rows.fits)) c.insert.ensures)
