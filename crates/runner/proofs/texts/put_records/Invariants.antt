-- The lines of the records so far are written.
use Prim.Native.Nat.{◌*◌}
use Rattle.rules.specs.Basics.{list_to}
use Rattle.ledger.specs.RecordNumbers.{record_at}
use Rattle.file.specs.Lines.{longest_line, Written}
use Rattle.file.specs.Program.{record_lines}
use Rattle.runner.proofs.texts.put_records.Given as goal

abbrev pub invariant-loop-record : goal.invariant-loop-record
invariant-loop-record l =
    Written (l.record-index * longest_line) l.initial.out l.out l.from l.written (record_lines (list_to (record_at l.records)
    l.record-index))
