-- `ledger::moved_by` meets its contract: the amounts of two lines that are right are those that are stored. Assumes nothing.
use Rattle.rules.proofs.Stored.{amount_back}
use Rattle.ledger.specs.Moved.{moved_by}
use Rattle.ledger.proofs.rounds.moved_by.Goals as goal

pub returns : goal.returns
unfolding moved_by
returns c =
    let a = c.line_at.ensures in
    let b = c.line_at-2.ensures in
    rw (a.quantity, a.kroner, a.billionths, amount_back, b.quantity, b.kroner, b.billionths, amount_back) at
    c.line_difference.ensures
