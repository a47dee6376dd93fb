-- The lines before `k` that have moved are counted.
use mathlib.Core.Path.{◌≡◌}
use Rattle.ledger.specs.Moved.{moved_count}
use Rattle.ledger.proofs.rounds.moved_count.Given as goal

abbrev pub invariant-loop-k : goal.invariant-loop-k
invariant-loop-k l = l.n ≡ moved_count l.lines l.sent l.k
