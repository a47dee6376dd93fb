-- After `i` records these stand at the front of the list, and the rest of it is as it was lent.
use Rattle.std.proofs.Common.{◌≡◌}
use Rattle.rules.proofs.ListFronts.{front}
use Rattle.ledger.specs.RecordNumbers.{record_at}
use Rattle.ledger.proofs.records.put_list.Given as goal

abbrev pub invariant-loop-i : goal.invariant-loop-i
invariant-loop-i l = l.list ≡ front (record_at l.numbers) l.i l.initial.list
