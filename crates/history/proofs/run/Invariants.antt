-- After i turns the world, the list and the table of answers are those of the rules' run of the first i messages, and what is lent stays
-- the same slices.
use Rattle.rules.specs.Lent.{open_world, SameLent}
use Rattle.history.specs.Runs.{messages_of, Followed}
use Rattle.history.proofs.run.Given as goal

abbrev pub invariant-loop-i : goal.invariant-loop-i
invariant-loop-i l =
    let s = l.initial in
    record {
      same : SameLent s.opened l.opened;
      followed : Followed (open_world s.opened) (open_world l.opened)
          (messages_of l.inputs l.i) l.count s.records l.records s.answers l.answers;
    }
