-- The book's parts lie within what is lent, and come back into their places.
use mathlib.Core.Path.{◌≡◌, sym, subst}
use lib.Seq.{length-take-le}
use Rattle.rules.specs.Lent.{Lists, world_in, given}
use Rattle.rules.specs.Whole.{Whole}
use Rattle.rules.proofs.Parts.{dated}
use Rattle.runner.specs.declared.parts.Ends.{Ends}
use Rattle.runner.specs.Parts.{Fitted, ends_of, cut_to, fronts}
use Rattle.runner.proofs.PartLaws.{EndsFit, ends_fit, Within, within, whole_fitted}
use Rattle.runner.proofs.TellLaws.{told}
use native.Mathlib.Omega.{arith}
use Rattle.runner.proofs.parts.tell.Goals as goal
use Rattle.runner.proofs.parts.tell.Goals.{Start}

-- everything that is lent
abbrev lent : Start → Lists
lent s =
    let a = s.args in
    given a.element_data.now a.prices.now a.links.now a.holders.now a.states.now a.readings.now a.blocks.now a.lines.now a.sent.now

fitted : (c : Start) → Fitted c.args.book
fitted c = whole_fitted c.args.book (lent c) c.requires.open.whole c.requires.open.points

fit : (c : Start) (e : Ends) → e ≡ ends_of c.args.book → EndsFit e
fit c e q = ends_fit c.args.book (fitted c) e q

inside : (c : Start) (e : Ends) → e ≡ ends_of c.args.book → Within e (lent c)
inside c e q = within c.args.book (fitted c) e q _ c.requires.sized.0

pub ends_of-ends-requires : goal.ends_of-ends-requires
ends_of-ends-requires c =
    let s = (goal.at.ends_of-ends-requires c).Start in
    (fitted s, dated s.args.book (fronts s.args.book (lent s)) s.requires.open.whole)

pub slice_bounds-message_lent-end : goal.slice_bounds-message_lent-end
slice_bounds-message_lent-end c =
    let s = (goal.at.slice_bounds-message_lent-end c).Start in
    sym (length-take-le c.ends_of-ends.result.described s.args.element_data.now
    (omega (arith, (fit s _ c.ends_of-ends.ensures).described, s.requires.sized.0.element_data)))

pub slice_bounds-message_lent-end-2 : goal.slice_bounds-message_lent-end-2
slice_bounds-message_lent-end-2 c =
    let s = (goal.at.slice_bounds-message_lent-end-2 c).Start in
    sym (length-take-le c.ends_of-ends.result.priced s.args.prices.now
    (omega (arith, (fit s _ c.ends_of-ends.ensures).priced, s.requires.sized.0.prices)))

pub slice_bounds-message_lent-end-3 : goal.slice_bounds-message_lent-end-3
slice_bounds-message_lent-end-3 c =
    let s = (goal.at.slice_bounds-message_lent-end-3 c).Start in
    (inside s _ c.ends_of-ends.ensures).readings

pub slice_bounds-message_lent-end-4 : goal.slice_bounds-message_lent-end-4
slice_bounds-message_lent-end-4 c =
    let s = (goal.at.slice_bounds-message_lent-end-4 c).Start in
    sym (length-take-le c.ends_of-ends.result.readings s.args.readings.now (inside s _ c.ends_of-ends.ensures).readings)

pub slice_bounds-message_lent-end-5 : goal.slice_bounds-message_lent-end-5
slice_bounds-message_lent-end-5 c =
    let s = (goal.at.slice_bounds-message_lent-end-5 c).Start in
    (inside s _ c.ends_of-ends.ensures).blocks

pub slice_bounds-message_lent-end-6 : goal.slice_bounds-message_lent-end-6
slice_bounds-message_lent-end-6 c =
    let s = (goal.at.slice_bounds-message_lent-end-6 c).Start in
    sym (length-take-le c.ends_of-ends.result.blocks s.args.blocks.now (inside s _ c.ends_of-ends.ensures).blocks)

pub slice_bounds-message_lent-end-7 : goal.slice_bounds-message_lent-end-7
slice_bounds-message_lent-end-7 c =
    let s = (goal.at.slice_bounds-message_lent-end-7 c).Start in
    (inside s _ c.ends_of-ends.ensures).lines

pub slice_bounds-message_lent-end-8 : goal.slice_bounds-message_lent-end-8
slice_bounds-message_lent-end-8 c =
    let s = (goal.at.slice_bounds-message_lent-end-8 c).Start in
    sym (length-take-le c.ends_of-ends.result.lines s.args.lines.now (inside s _ c.ends_of-ends.ensures).lines)

pub slice_bounds-message_lent-end-9 : goal.slice_bounds-message_lent-end-9
slice_bounds-message_lent-end-9 c =
    let s = (goal.at.slice_bounds-message_lent-end-9 c).Start in
    (inside s _ c.ends_of-ends.ensures).sent

pub slice_bounds-message_lent-end-10 : goal.slice_bounds-message_lent-end-10
slice_bounds-message_lent-end-10 c =
    let s = (goal.at.slice_bounds-message_lent-end-10 c).Start in
    sym (length-take-le c.ends_of-ends.result.lines s.args.sent.now (inside s _ c.ends_of-ends.ensures).sent)

pub message_lent-requires : goal.message_lent-requires
message_lent-requires c =
    let s = (goal.at.message_lent-requires c).Start in
    subst (λ (e : Ends). Whole (world_in s.args.book (cut_to e (lent s)))) (sym c.ends_of-ends.ensures)
    s.requires.open.whole

pub returns : goal.returns
returns c =
    let s = (goal.at.returns c).Start in
    let k = c.message_lent.auto in
    told s.args.book (lent s) c.ends_of-ends.result c.ends_of-ends.ensures s.requires.sized.0 (fitted s) _ _ _ _ _ _ _
    (record { readings = omega (arith, k); blocks = omega (arith, k); lines = omega (arith, k); sent = omega (arith, k) }) _
    c.message_lent.result.0 c.message_lent.result.1 _ _ s.requires.sized.1 c.message_lent.ensures.replied
    c.message_lent.ensures.whole s.requires.open.points
