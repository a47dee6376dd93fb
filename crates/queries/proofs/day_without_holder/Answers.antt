-- Where question 7 does not say no, the search answers: it looks at nothing but the book and the rows.
use Prim.Native.Nat.{ℕ}
use mathlib.Core.List.{List}
use mathlib.Core.Path.{◌≡◌, refl, sym, ap, ◌∙◌}
use Rattle.std.proofs.lemmas.Result.{err_from_is_err_and}
use Rattle.rules.specs.declared.Book.{Book}
use Rattle.rules.specs.World.{World, holder_on, state_on, linked_on, rows_of, month_first, month_days}
use Rattle.rules.specs.Queries.{DayResult, day_number, lacks_holder, earliest_without_holder}
use Rattle.rules.specs.Whole.{Whole}
use Rattle.rules.proofs.DayQuery.{day-answered}
use Rattle.rules.specs.Lent.{Lists, world_in, lend_rows}
use Rattle.queries.proofs.Asks.{day-asks, day-refused}
use Rattle.queries.proofs.Lacks.{point-asked}
use Rattle.queries.proofs.day_without_holder.Goals as goal
use Rattle.queries.proofs.day_without_holder.Goals.{In_ok-ask_point}

-- the book as it is lent, and any other tables
abbrev world : (b : Book) → (links holders states : List ℕ) → Lists → World
world b links holders states o = world_in b (lend_rows links holders states o)

-- no question says no
passed : (c : In_ok-ask_point) (o : Lists) → let a = c.args in
    let w = world a.book a.links.now a.holders.now a.states.now o in
    Whole w → day_number w a.point ≡ 0
passed c o whole =
    let a = c.args in
    sym (c.in_ok-ask_point.ensures ∙ day-asks (world a.book a.links.now a.holders.now a.states.now o) whole a.point)

pub returns-in_err-ask_point : goal.returns-in_err-ask_point
returns-in_err-ask_point c o whole =
    let a = c.args in
    let w = world a.book a.links.now a.holders.now a.states.now o in
    let r = err_from_is_err_and c.from_residual.result c.from_residual.ensures.1 in
    rw (r.1, r.2) (day-refused w a.point _ (c.in_err-ask_point.ensures ∙ day-asks w whole a.point))

pub find_day-requires : goal.find_day-requires
find_day-requires c =
    let a = c.args in
    let o = c.requires.0 in
    point-asked _ (lend_rows a.links.now a.holders.now a.states.now o) a.point refl refl refl
    (passed (goal.at.find_day-requires c).In_ok-ask_point o c.requires.1)

pub returns : goal.returns
unfolding earliest_without_holder lacks_holder month_first month_days holder_on state_on linked_on rows_of
returns c o whole =
    let a = c.args in
    ap DayResult.answered c.find_day.ensures
    ∙ sym (day-answered (world a.book a.links.now a.holders.now a.states.now o) a.point
    (passed (goal.at.returns c).In_ok-ask_point o whole))
