-- Each turn joins its run to those before it.
use Rattle.runner.specs.Parts.{SameSlices}
use Rattle.settle.proofs.Turning.{Going}
use Rattle.settle.proofs.run_session.Given as goal

abbrev pub invariant-loop-turn : goal.invariant-loop-turn
invariant-loop-turn g l =
    let i = l.initial in record {
      going : Going l._turn l.session l.store l.buffer (g.R.Read.remaining i.reader) (g.R.Read.remaining l.reader)
          (g.W.Write.contents i.output)
          (g.W.Write.contents l.output);
      same : SameSlices i.store l.store;
    }
