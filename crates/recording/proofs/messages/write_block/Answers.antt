-- The table that is written is the rules'.
use Rattle.rules.specs.Lent.{open_lists}
use Rattle.recording.proofs.Leaves.{block_left}
use Rattle.recording.proofs.messages.write_block.Goals as goal

pub returns-clause-recorded : goal.returns-clause-recorded
returns-clause-recorded c =
    let b = c.args.opened.now in
    block_left b.book (open_lists b) c.args.point c.args.blocked
