-- The parts lie within the tables; cleared, they come back as the fronts of them.
use mathlib.Core.Path.{sym}
use lib.Seq.{length-take-le}
use Rattle.rules.specs.Lent.{Lists, lend_tables}
use Rattle.runner.specs.Parts.{cut_to}
use Rattle.runner.proofs.PartLaws.{Within, within, cleared_back}
use native.Mathlib.Omega.{arith}
use Rattle.runner.proofs.parts.clear_parts.Goals as goal
use Rattle.runner.proofs.parts.clear_parts.Goals.{After-ends_of-ends, Start}

-- what is lent, and any other tables
abbrev lent : Start → Lists → Lists
lent s o =
    lend_tables s.args.links.now s.args.holders.now s.args.states.now s.args.readings.now s.args.blocks.now
    s.args.lines.now s.args.sent.now o

inside : (c : After-ends_of-ends) → let a = c.args in
    Within c.ends_of-ends.result (lend_tables a.links.now a.holders.now a.states.now a.readings.now a.blocks.now a.lines.now a.sent.now
    c.requires.sized.0)
inside c = within c.args.book c.requires.fitted.0 c.ends_of-ends.result c.ends_of-ends.ensures _ c.requires.sized.1

pub slice_bounds-clear_lent-end : goal.slice_bounds-clear_lent-end
slice_bounds-clear_lent-end c = (inside (goal.at.slice_bounds-clear_lent-end c).After-ends_of-ends).readings

pub slice_bounds-clear_lent-end-2 : goal.slice_bounds-clear_lent-end-2
slice_bounds-clear_lent-end-2 c =
    sym (length-take-le c.ends_of-ends.result.readings c.args.readings.now
    (inside (goal.at.slice_bounds-clear_lent-end-2 c).After-ends_of-ends).readings)

pub slice_bounds-clear_lent-end-3 : goal.slice_bounds-clear_lent-end-3
slice_bounds-clear_lent-end-3 c = (inside (goal.at.slice_bounds-clear_lent-end-3 c).After-ends_of-ends).blocks

pub slice_bounds-clear_lent-end-4 : goal.slice_bounds-clear_lent-end-4
slice_bounds-clear_lent-end-4 c =
    sym (length-take-le c.ends_of-ends.result.blocks c.args.blocks.now
    (inside (goal.at.slice_bounds-clear_lent-end-4 c).After-ends_of-ends).blocks)

pub slice_bounds-clear_lent-end-5 : goal.slice_bounds-clear_lent-end-5
slice_bounds-clear_lent-end-5 c = (inside (goal.at.slice_bounds-clear_lent-end-5 c).After-ends_of-ends).lines

pub slice_bounds-clear_lent-end-6 : goal.slice_bounds-clear_lent-end-6
slice_bounds-clear_lent-end-6 c =
    sym (length-take-le c.ends_of-ends.result.lines c.args.lines.now
    (inside (goal.at.slice_bounds-clear_lent-end-6 c).After-ends_of-ends).lines)

pub slice_bounds-clear_lent-end-7 : goal.slice_bounds-clear_lent-end-7
slice_bounds-clear_lent-end-7 c = (inside (goal.at.slice_bounds-clear_lent-end-7 c).After-ends_of-ends).sent

pub slice_bounds-clear_lent-end-8 : goal.slice_bounds-clear_lent-end-8
slice_bounds-clear_lent-end-8 c =
    sym (length-take-le c.ends_of-ends.result.lines c.args.sent.now
    (inside (goal.at.slice_bounds-clear_lent-end-8 c).After-ends_of-ends).sent)

pub returns : goal.returns
returns c o =
    let v = inside (goal.at.returns c).After-ends_of-ends in
    let k = c.clear_lent.auto in
    cleared_back c.args.book (lent (goal.at.returns c).Start o) c.ends_of-ends.result c.ends_of-ends.ensures
    (record { readings = v.readings; blocks = v.blocks; lines = v.lines; sent = v.sent }) _ _ _ _ _ _ _
    (record { readings = omega (arith, k); blocks = omega (arith, k); lines = omega (arith, k); sent = omega (arith, k) })
    (c.clear_lent.ensures (cut_to c.ends_of-ends.result (lent (goal.at.returns c).Start o)))
