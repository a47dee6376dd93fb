-- The run's promise for the bytes in hand; what it leaves of them is what is kept.
use Rattle.settle.proofs.Turning.{turns_so}
use Rattle.settle.proofs.turn.Goals as goal

pub returns-clause-turns : goal.returns-clause-turns
returns-clause-turns c =
    rw c.after.ensures
    (turns_so c.args.session _ c.args.buffer.now c.args.out.now c.run-ran.result _ _ _ c.is_last-ended.ensures c.requires.lent.held
    c.run-ran.ensures.reached c.run-ran.ensures.stopped _ c.copy_within.ensures.after c.copy_within.ensures.len)
