-- Question 2 by its limits and by the points, then question 4: the tables have their lengths.
use mathlib.Core.Path.{sym, ◌∙◌}
use Rattle.rules.specs.Lent.{Lists, lend_elements, no_lists}
use Rattle.runner.specs.Parts.{fronts}
use Rattle.runner.proofs.PartLaws.{limited_fitted}
use Rattle.runner.proofs.OpenLaws.{unlimited, too_many-points, asked-elements}
use native.Mathlib.Omega.{arith}
use Rattle.runner.proofs.parts.ask_opening.Goals as goal
use Rattle.runner.proofs.parts.ask_opening.Goals.{Start}
use Rattle.runner.proofs.parts.ask_opening.Goals.{else-is_limited-via-then-is_limited+else-book-le-SETTLE_POINTS}
use Rattle.runner.proofs.parts.ask_opening.Goals.{else-is_limited-via-else-is_limited}

-- what is lent, and any other tables
abbrev lent : Start → Lists → Lists
lent s o = lend_elements s.args.element_data.now s.args.prices.now o

pub ask_elements-requires : goal.ask_elements-requires
ask_elements-requires c =
    record {
      fitted = limited_fitted c.args.book no_lists (sym (c.is_limited.ensures no_lists) ∙ c.if-is_limited.true)
          c.if-book-le-SETTLE_POINTS.true;
      element_data_len = c.requires;
    }

pub returns-then-book-le-SETTLE_POINTS : goal.returns-then-book-le-SETTLE_POINTS
returns-then-book-le-SETTLE_POINTS c o =
    let b = c.args.book in
    let t = lent (goal.at.returns-then-book-le-SETTLE_POINTS c).Start o in
    let w = sym (c.is_limited.ensures (fronts b t)) ∙ c.if-is_limited.true in
    let g = limited_fitted b (fronts b t) w c.if-book-le-SETTLE_POINTS.true in
    let n = g.elements in
    let z = c.requires in
    c.ask_elements.ensures o ∙ sym (asked-elements b t g (omega arith) (omega arith) w)

pub returns-else-is_limited : goal.returns-else-is_limited
returns-else-is_limited c o =
    let t = fronts c.args.book (lent (goal.at.returns-else-is_limited c).Start o) in
    elim c.else-is_limited.branch [
      | else-is_limited-via-then-is_limited+else-book-le-SETTLE_POINTS w ↦ sym (too_many-points _ w.if-book-le-SETTLE_POINTS.false)
      | else-is_limited-via-else-is_limited w ↦ sym (unlimited _ (sym (c.is_limited.ensures t) ∙ w.if-is_limited.false))
    ]
