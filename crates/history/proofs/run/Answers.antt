-- After i turns the world, the list and the table of answers are those of the rules' run of the first i messages.
use Prim.Native.Nat.{◌+◌, ◌*◌, ◌/◌, ◌≤◌}
use mathlib.Core.Path.{◌≡◌, refl, ◌∙◌}
use lib.ListN.{length}
use native.Mathlib.Omega.{arith}
use borrow.Author.Rules.{rules}
use Rattle.rules.specs.Answers.{number_of}
use Rattle.rules.specs.Sizes.{record_size}
use Rattle.settlement.specs.Replies.{count_of}
use Rattle.history.proofs.Turns.{followed_none, count_fits, list-long, next_fits, followed_turn}
use Rattle.history.proofs.Tails.{replied_tail}
use Rattle.history.proofs.run.Goals as goal
use Rattle.history.proofs.run.Goals.{In-loop-i, After-message-reply, in-Ok, in-Err}

-- the records so far fit the list, and it has its length
fits : (c : In-loop-i) → (c.loop-i.count * record_size ≤ length c.args.records.now) × (length c.loop-i.records ≡ length c.args.records.now)
fits c =
    let k = count_fits _ _ _ _ _ _ _ _ c.loop-i.invariant.followed in
    (omega arith, list-long _ _ _ _ _ _ _ _ c.loop-i.invariant.followed)

next_count : (c : After-message-reply) → c.loop-i.count + count_of c.message-reply.result ≤ length c.args.records.now / record_size
next_count c =
    let k = count_fits _ _ _ _ _ _ _ _ c.loop-i.invariant.followed in
    let l = list-long _ _ _ _ _ _ _ _ c.loop-i.invariant.followed in
    next_fits _ _ _ _ _ _ _ _ c.loop-i.invariant.followed _ _ _ _
    (replied_tail _ _ _ _ c.loop-i.records _ (c.loop-i.count * record_size) (omega arith) c.message-reply.ensures.replied).0

pub loop-i-init : goal.loop-i-init
loop-i-init c =
    let a = c.args in
    record { same = search rules; followed = followed_none _ a.inputs.now a.records.now a.answers.now }

pub overflow_mul-from : goal.overflow_mul-from
overflow_mul-from c = let h = fits c in search rules

pub offset_bounds-records-from : goal.offset_bounds-records-from
offset_bounds-records-from c = let h = fits (goal.at.offset_bounds-records-from c).In-loop-i in search rules

pub slice_bounds-message-count : goal.slice_bounds-message-count
slice_bounds-message-count c = let h = fits (goal.at.slice_bounds-message-count c).In-loop-i in search rules

pub slice_bounds-message-start : goal.slice_bounds-message-start
slice_bounds-message-start c = let h = fits (goal.at.slice_bounds-message-start c).In-loop-i in search rules

pub overflow_add-count : goal.overflow_add-count
overflow_add-count c =
    let k : c.loop-i.count + c.in-Ok.written ≤ length c.args.records.now / record_size =
    rw c.in-Ok.is at (next_count (goal.at.overflow_add-count c).After-message-reply) in
    search rules

pub loop-i-preserved : goal.loop-i-preserved
loop-i-preserved c =
    let l = c.loop-i in
    let h = fits (goal.at.loop-i-preserved c).In-loop-i in
    let q = replied_tail _ _ _ _ l.records _ (l.count * record_size) (omega arith) c.message-reply.ensures.replied in
    let e : (c.match-reply.count ≡ l.count + count_of c.message-reply.result) × (c.match-reply.answers ≡ number_of c.message-reply.result) =
    elim c.match-reply.branch [
      | in-Ok w ↦ rw w.in-Ok.is (w.count-is, w.answers-is)
      | in-Err w ↦ rw w.in-Err.is (omega (arith, w.count-is), w.answers-is ∙ w.number.ensures)
    ] in
    record {
      same = search rules;
      followed = rw (e.0, e.1) (followed_turn _ _ _ _ _ _ _ _ _ l.invariant.followed _ _ _ _ _
          (omega arith) c.fields_at.ensures q.0 q.1 refl);
    }
