-- The lines before `k` that have moved are counted.
use mathlib.Core.Path.{◌≡◌, refl, sym, ap, ◌∙◌}
use mathlib.Core.Bool.{Bool, true, false, cond, not}
use Prim.Native.Nat.{◌*◌, ◌≤◌}
use mir.Val.{bool_byte}
use native.Mathlib.Omega.{arith}
use Rattle.rules.specs.Sizes.{line_size}
use Rattle.rules.proofs.Parts.{few-lines}
use Rattle.ledger.specs.Moved.{moved_count, unmoved_at}
use Rattle.ledger.proofs.RoundLaws.{sendable, count_none, count-few, count_more}
use Rattle.ledger.proofs.rounds.moved_count.Goals as goal
use Rattle.ledger.proofs.rounds.moved_count.Goals.{After-from-n}

pub loop-k-init : goal.loop-k-init
loop-k-init c = sym (count_none _ _)

pub is_unmoved-requires : goal.is_unmoved-requires
is_unmoved-requires c = (sendable c.args.book _ _ c.requires c.loop-k.k (omega arith)).compared

one : (u : Bool) → bool_byte (not u) ≡ cond u 0 1
one true = refl
one false = refl

one_few : (u : Bool) → cond u 0 1 ≤ 1
one_few true = omega arith
one_few false = omega arith

-- what a turn adds
step : (c : After-from-n) → c.from-n.result ≡ cond (unmoved_at c.args.lines.now c.args.sent.now (c.loop-k.k * line_size)) 0 1
step c = c.from-n.ensures ∙ ap (λ u. bool_byte (not u)) c.is_unmoved.ensures ∙ one _

pub overflow_add-n : goal.overflow_add-n
overflow_add-n c =
    let f = few-lines c.args.book.suppliers c.args.book.elements c.requires.suppliers c.requires.elements in
    let e : c.loop-k.n ≡ moved_count c.args.lines.now c.args.sent.now c.loop-k.k = c.loop-k.invariant in
    let m = count-few c.args.lines.now c.args.sent.now c.loop-k.k in
    let s = step (goal.at.overflow_add-n c).After-from-n in
    let o = one_few (unmoved_at c.args.lines.now c.args.sent.now (c.loop-k.k * line_size)) in
    record { fits = omega arith }

pub loop-k-preserved : goal.loop-k-preserved
loop-k-preserved c =
    let e : c.loop-k.n ≡ moved_count c.args.lines.now c.args.sent.now c.loop-k.k = c.loop-k.invariant in
    rw (e, step (goal.at.loop-k-preserved c).After-from-n) (sym (count_more c.args.lines.now c.args.sent.now c.loop-k.k))
