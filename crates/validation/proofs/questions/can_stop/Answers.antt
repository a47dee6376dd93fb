-- Question 14 is a test of the first and of the last row of the pair.
use Rattle.rules.specs.Lent.{lent_tables}
use Rattle.rules.specs.World.{rows_of}
use Rattle.validation.proofs.Stops.{stop_is}
use Rattle.validation.proofs.questions.can_stop.Goals as goal

pub returns : goal.returns
unfolding rows_of
returns c =
    let a = c.args in
    let s = stop_is (lent_tables a.lent.now) a.place.point a.place.element a.place.day c.requires.readable.link_rows.run
    c.requires.readable.link_ends in
    cc
