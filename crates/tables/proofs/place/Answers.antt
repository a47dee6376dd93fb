-- `tables::place` meets its contract: `low` and `high` bracket the place; the rows are in order, so a middle row decides for all on its
-- side.
use Prim.Native.Nat.{◌+◌, ◌-◌, ◌/◌}
use native.Mathlib.Omega.{arith}
use Rattle.std.proofs.lemmas.Bool.{lt-ltb, le-ltb}
use Rattle.tables.proofs.Order.{rising_le, below-is}
use Rattle.tables.proofs.place.Goals as goal

pub loop-low-init : goal.loop-low-init
loop-low-init c = omega arith

pub overflow_sub-middle : goal.overflow_sub-middle
overflow_sub-middle c = omega arith

pub overflow_add-middle : goal.overflow_add-middle
overflow_add-middle c = omega arith

pub offset_bounds-rows-middle : goal.offset_bounds-rows-middle
offset_bounds-rows-middle c = omega arith

pub bounds-rows-middle : goal.bounds-rows-middle
bounds-rows-middle c = omega arith

pub overflow_add-low : goal.overflow_add-low
overflow_add-low c = omega arith

pub loop-low-smaller-then-rows-middle : goal.loop-low-smaller-then-rows-middle
loop-low-smaller-then-rows-middle c = omega arith

pub loop-low-preserved-then-rows-middle : goal.loop-low-preserved-then-rows-middle
loop-low-preserved-then-rows-middle c =
    let l = c.loop-low in
    let a = c.args in
    let m = l.low + (l.high - l.low) / 2 in
    let s = c.requires in (
      omega arith,
      omega arith,
      (λ k h. omega (arith, rising_le (λ w. w) s k m (omega arith) (omega arith))),
      l.invariant.3,
    )

pub loop-low-smaller : goal.loop-low-smaller
loop-low-smaller c = omega arith

pub loop-low-preserved : goal.loop-low-preserved
loop-low-preserved c =
    let l = c.loop-low in
    let a = c.args in
    let m = l.low + (l.high - l.low) / 2 in
    let s = c.requires in (
      omega arith,
      omega arith,
      l.invariant.2,
      (λ k h h'. omega (arith, rising_le (λ w. w) s m k (omega arith) (omega arith))),
    )

pub returns-clause-is : goal.returns-clause-is
returns-clause-is c =
    let l = c.loop-low in
    let a = c.args in
    below-is a.word a.rows.now l.low (omega arith) (λ k h. lt-ltb _ _ (l.invariant.2 k h))
    (λ k h h'. le-ltb _ _ (l.invariant.3 k (omega arith) h'))
