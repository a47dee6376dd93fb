-- The lines before `k` are copied, and the records of those that had moved stand at the front of the list.
use Rattle.std.proofs.Common.{◌≡◌, ◌*◌}
use lib.Seq.{paste}
use Rattle.ledger.specs.Moved.{line_records, moved_count}
use Rattle.ledger.specs.RecordNumbers.{numbers_after}
use Rattle.rules.specs.Sizes.{line_size}
use Rattle.ledger.proofs.rounds.send_lines.Given as goal

abbrev pub invariant-loop-k : goal.invariant-loop-k
invariant-loop-k l =
    record {
      sent : l.sent ≡ paste l.initial.sent 0 l.lines (l.k * line_size);
      places : l.n ≡ moved_count l.lines l.initial.sent l.k;
      records : l.records ≡ numbers_after (line_records l.book l.lines l.initial.sent l.k) l.initial.records;
    }
