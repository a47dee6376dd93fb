-- One store more is one record more at the front.
use Rattle.std.proofs.Common.{◌≡◌, ◌<◌, ◌+◌, length, refl, sym, ◌∙◌, arith}
use Rattle.rules.proofs.ListFronts.{front-is, front_none, front-step}
use Rattle.ledger.proofs.records.put_list.Goals as goal

pub loop-i-init : goal.loop-i-init
loop-i-init c = sym (front_none _ c.args.list.now)

pub loop-i-preserved : goal.loop-i-preserved
loop-i-preserved c =
    let l : c.loop-i.i < length c.args.list.now = omega arith in
    rw c.loop-i.invariant (front-step _ c.loop-i.i (c.loop-i.i + 1) c.args.list.now c.record_at.result l refl c.record_at.ensures)

pub returns : goal.returns
returns c =
    let e : c.loop-i.i ≡ c.args.count = omega arith in
    (rw e at c.loop-i.invariant) ∙ front-is _ c.args.count c.args.list.now
