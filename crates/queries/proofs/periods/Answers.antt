-- `queries::periods` meets its contract: the part that the search found where the questions have passed; else the empty part, with nothing
-- read, which is what the query answers then.
use Prim.Native.Nat.{◌+◌, ◌-◌, ◌≤◌}
use mathlib.Core.Path.{◌≡◌, refl, sym, ◌∙◌}
use native.Mathlib.Omega.{arith}
use lib.ListN.{length}
use Rattle.rules.specs.World.{World}
use Rattle.rules.specs.Answers.{number_of}
use Rattle.rules.specs.Lent.{Lists, world_in, lend_links}
use Rattle.queries.proofs.Answered.{periods-inside, periods-refused}
use Rattle.queries.proofs.Asks.{passed_number, refused_number}
use borrow.Author.Rules.{rules}
use Rattle.queries.proofs.periods.Goals as goal
use Rattle.queries.proofs.periods.Goals.{Start, Else-is_err, After-periods_place-place}

-- the book as it is lent, and any other tables
abbrev world : Start → Lists → World
world s o = world_in s.args.book (lend_links s.args.links.now o)

-- the questions have passed
passed : (c : Else-is_err) → number_of c.args.asked ≡ 0
passed c = passed_number c.args.asked (sym c.is_err.ensures.value ∙ c.if-is_err.false)

-- the part ends within the table
inside : (c : After-periods_place-place)
    → c.periods_place-place.result.place + c.periods_place-place.result.count ≤ length c.args.links.now
inside c =
    let a = c.args in
    let known = c.requires (passed_number a.asked (sym c.is_err.ensures.value ∙ c.if-is_err.false)) in
    periods-inside a.book (lend_links a.links.now known.0) a.point a.element _ _ known.1 (c.periods_place-place.ensures known.0 known.1).0

pub returns-then-is_err : goal.returns-then-is_err
returns-then-is_err c =
    record {
      answers = λ o e. periods-refused (world (goal.at.returns-then-is_err c).Start o) c.args.point c.args.element
          (λ z. refused_number c.args.asked (sym c.is_err.ensures.value ∙ c.if-is_err.true) (e ∙ z));
      refused = λ n. (refl, refl);
    }

pub periods_place-place-requires : goal.periods_place-place-requires
periods_place-place-requires c = c.requires (passed (goal.at.periods_place-place-requires c).Else-is_err)

pub overflow_add-end : goal.overflow_add-end
overflow_add-end c = let i = inside (goal.at.overflow_add-end c).After-periods_place-place in search rules

pub offset_bounds-links-place : goal.offset_bounds-links-place
offset_bounds-links-place c = let i = inside (goal.at.offset_bounds-links-place c).After-periods_place-place in search rules

pub slice_bounds-result-end-2 : goal.slice_bounds-result-end-2
slice_bounds-result-end-2 c = inside (goal.at.slice_bounds-result-end-2 c).After-periods_place-place

pub returns : goal.returns
returns c =
    let r = c.periods_place-place.result in
    let many : r.place + r.count - r.place ≡ r.count = omega arith in
    let z = passed (goal.at.returns c).Else-is_err in
    record {
      answers = λ o e. let k = c.periods_place-place.ensures o (sym e ∙ z) in (rw many k.0.rows, k.1);
      refused = λ n. absurd (n z);
    }
