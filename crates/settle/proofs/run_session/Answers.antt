-- Each turn joins its run to those before it.
use Rattle.std.proofs.Common.{rules}
use native.Mathlib.Omega.{arith}
use Rattle.settle.proofs.Turning.{going_first, going_on, over_so, settles_so, unwritten_so}
use Rattle.settle.proofs.run_session.Goals as goal

pub loop-turn-init : goal.loop-turn-init
loop-turn-init g c = record {
  going = going_first _ _ _ _ _ c.begin_session-session.ensures c.requires.sized c.requires.buffer_len.0;
  same = search rules;
}

pub returns-in_err-write_out-clause-ended : goal.returns-in_err-write_out-clause-ended
returns-in_err-write_out-clause-ended g c =
    let l = c.loop-turn in
    unwritten_so l._turn l.session _ _ _ _ _ _ l.invariant.going c.read_on.new.buffer c.in_ok-session.ensures.front _
    c.in_ok-session.session
    c.in_ok-session.ensures.read.arrived c.turn-turned.result c.turn-turned.new.store _ _ c.turn-turned.ensures.turns (omega (
      arith,
      c.read_on.auto,
    )) _ _ (search rules)

pub returns-in-Over-clause-ended : goal.returns-in-Over-clause-ended
returns-in-Over-clause-ended g c =
    let l = c.loop-turn in
    over_so l._turn l.session _ _ _ _ _ _ l.invariant.going c.read_on.new.buffer c.in_ok-session.ensures.front _ c.in_ok-session.session
    c.in_ok-session.ensures.read.arrived c.turn-turned.result c.turn-turned.new.store _ _ c.turn-turned.ensures.turns (omega (
      arith,
      c.read_on.auto,
    )) _
    c.in_ok-write_out.ensures c.in-Over.is

pub returns-in-Over-clause-settles : goal.returns-in-Over-clause-settles
returns-in-Over-clause-settles g c =
    let l = c.loop-turn in
    settles_so l._turn l.session _ _ _ _ _ _ l.invariant.going c.read_on.new.buffer c.in_ok-session.ensures.front _ c.in_ok-session.session
    c.in_ok-session.ensures.read.arrived c.turn-turned.result c.turn-turned.new.store _ _ c.turn-turned.ensures.turns (omega (
      arith,
      c.read_on.auto,
    )) _
    c.in_ok-write_out.ensures c.in-Over.is

pub loop-turn-preserved : goal.loop-turn-preserved
loop-turn-preserved g c =
    let l = c.loop-turn in
    record {
      going = going_on l._turn l.session _ _ _ _ _ _ l.invariant.going c.read_on.new.buffer c.in_ok-session.ensures.front _
          c.in_ok-session.session c.in_ok-session.ensures.read.arrived c.turn-turned.result c.turn-turned.new.store _ _
          c.turn-turned.ensures.turns (omega (arith, c.read_on.auto)) _
          c.in_ok-write_out.ensures c.in_default.not-Over c.turn-turned.ensures.stocked (omega (arith, c.turn-turned.auto));
      same = search rules;
    }
