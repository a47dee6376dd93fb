-- The lines of the records so far are written; entry i of the list is record i.
use Rattle.ledger.specs.RecordNumbers.{record_at}
use Rattle.runner.proofs.TextLaws.{no_lines, line_more, listed-below, listed_at}
use native.Mathlib.Omega.{arith}
use Rattle.runner.proofs.texts.put_records.Goals as goal

pub loop-record-init : goal.loop-record-init
loop-record-init c = no_lines c.args.records.now c.args.out.now c.args.from

pub loop-record-preserved : goal.loop-record-preserved
loop-record-preserved c =
    let f = record_at c.args.records.now in
    let l = listed-below f c.args.count _ _ _ c.listed-list.ensures c.loop-record-test.true in
    let r = c.requires.longest_line_in_bounds in
    line_more c.args.records.now _ _ _ _ _ _ _ c.loop-record.invariant _ (listed_at f c.args.count _ _ _ c.listed-list.ensures _ l)
    c.put_record-written.ensures (omega arith)
