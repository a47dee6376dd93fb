-- After each turn what was printed and what is still to be printed are what was to be printed at first. Each turn takes bytes away, opens
-- the book or is the last.
use Rattle.std.proofs.Common.{rules}
use mathlib.Core.Path.{refl, sym, ◌∙◌}
use mathlib.Core.Bool.{true, false}
use Prim.Native.Nat.{◌-◌}
use lib.ListN.{length}
use borrow.Author.Tests.{lt-leb}
use Rattle.runner.specs.Texts.{longest_text}
use Rattle.runner.specs.Holding.{can_go_on}
use Rattle.runner.proofs.StageLaws.{never}
use Rattle.runner.proofs.RunLaws.{stands, few-left, turns, less, ends}
use Rattle.runner.proofs.run.Goals as goal

pub returns-in_default-clause-stopped : goal.returns-in_default-clause-stopped
unfolding can_go_on
returns-in_default-clause-stopped c =
    let b = c.requires.stands in
    let u = c.loop-store.invariant.running in
    let d = stands _ _ _ _ _ _ _ _ _ _ _ u b in
    let f = c.in_default.ensures.steps in
    rw (f d.stage d.holds).2 (ends _ _ _ _ _ _ _ _ _ _ _ u true refl (λ w. few-left _ _ _ _ _ _ _ _ _ _ _ u b _ _ f))

pub loop-store-smaller : goal.loop-store-smaller
loop-store-smaller c =
    let l = c.loop-store in
    less _ _ _ _ _ _ _ _ l.p l.place l.written l.invariant.running c.requires.stands (sym c.may_come.ensures ∙ c.loop-store-test.true)
    c.if-out-written-ge-LONGEST_TEXT.true _ _ c.in-Some.advanced c.in-Some.ensures.steps

pub loop-store-preserved : goal.loop-store-preserved
loop-store-preserved c =
    let l = c.loop-store in
    record {
      running = turns _ _ _ _ _ _ _ _ l.p l.place l.written l.invariant.running c.requires.stands
          (sym c.may_come.ensures ∙ c.loop-store-test.true)
          c.if-out-written-ge-LONGEST_TEXT.true _ _ c.in-Some.advanced c.in-Some.ensures.steps c.advance.auto.out;
      same = search rules;
      sized = c.in-Some.ensures.sized;
    }

pub returns-else-out-written-ge-LONGEST_TEXT-clause-stopped : goal.returns-else-out-written-ge-LONGEST_TEXT-clause-stopped
unfolding can_go_on
returns-else-out-written-ge-LONGEST_TEXT-clause-stopped c =
    let l = c.loop-store in
    ends _ _ _ _ _ _ _ _ _ _ _ l.invariant.running false
    (rw (
      sym c.may_come.ensures ∙ c.loop-store-test.true,
      lt-leb longest_text (length l.out - l.written) c.if-out-written-ge-LONGEST_TEXT.false,
    ))
    (λ w. never (sym w))

pub returns-after-loop-store-clause-stopped : goal.returns-after-loop-store-clause-stopped
unfolding can_go_on
returns-after-loop-store-clause-stopped c =
    ends _ _ _ _ _ _ _ _ _ _ _ c.loop-store.invariant.running false (rw (sym c.may_come.ensures ∙ c.loop-store-test.false))
    (λ w. never (sym w))
