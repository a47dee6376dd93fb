-- After each turn what was printed and what is still to be printed are what was to be printed at first. Each turn takes bytes away, opens
-- the book or is the last.
use Rattle.std.proofs.Common.{◌-◌, length}
use Rattle.runner.specs.Parts.{lists_in, Stocked, SameSlices}
use Rattle.runner.proofs.RunLaws.{weight, Running}
use Rattle.runner.proofs.run.Given as goal

abbrev pub invariant-loop-store : goal.invariant-loop-store
invariant-loop-store l =
    let i = l.initial in record {
      running : Running l.ended l.s l.at i.p (lists_in i.store) i.out (lists_in l.store) l.out l.p l.place l.written;
      same : SameSlices i.store l.store;
      sized : Stocked l.store;
    }

abbrev pub decreases-loop-store : goal.decreases-loop-store
decreases-loop-store l = weight l.p (length l.s - l.place)
