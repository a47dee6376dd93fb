-- A line of a well-formed book is stored in its one form; else the query is refused.
use lib.IntN.{ℤ}
use mathlib.Core.List.{List}
use mathlib.Core.Path.{◌≡◌, sym, ◌∙◌}
use Rattle.std.proofs.lemmas.Result.{err_from_is_err_and}
use Rattle.rules.specs.declared.Book.{Book}
use Rattle.rules.specs.World.{World, line_at}
use Rattle.rules.specs.Queries.{line_number}
use Rattle.rules.specs.Whole.{Whole}
use Rattle.rules.specs.Lent.{Lists, world_in, lend_lines}
use Rattle.queries.proofs.Asks.{line-asks}
use Rattle.queries.proofs.Answered.{line_in_lem, line-there, line-named, line_refused_lem}
use Rattle.queries.proofs.line.Goals as goal
use Rattle.queries.proofs.line.Goals.{In_ok-ask_line}

-- the book as it is lent, and any other tables
abbrev world : Book → List ℤ → Lists → World
world b lines o = world_in b (lend_lines lines o)

-- no question says no
passed : (c : In_ok-ask_line) (o : Lists) → let a = c.args in
    let w = world a.book a.lines.now o in
    Whole w → line_number w a.supplier a.element ≡ 0
passed c o whole =
    let a = c.args in
    sym (c.in_ok-ask_line.ensures ∙ line-asks (world a.book a.lines.now o) whole a.supplier a.element)

pub returns-in_err-ask_line : goal.returns-in_err-ask_line
returns-in_err-ask_line c o whole =
    let a = c.args in
    let w = world a.book a.lines.now o in
    let r = err_from_is_err_and c.from_residual.result c.from_residual.ensures.1 in
    rw (r.1, r.2) (line_refused_lem w a.supplier a.element _ (c.in_err-ask_line.ensures ∙ line-asks w whole a.supplier a.element))

pub line_place-requires : goal.line_place-requires
line_place-requires c =
    let a = c.args in
    let k = line_in_lem (world a.book a.lines.now c.requires.0) a.supplier a.element
    (passed (goal.at.line_place-requires c).In_ok-ask_line c.requires.0 c.requires.1) in
    record { le_supplier = k.0; elements_le_most_elements = k.1 }

pub line_at-requires : goal.line_at-requires
unfolding line_at
line_at-requires c =
    let a = c.args in
    rw c.line_place.ensures
    (line-there (world a.book a.lines.now c.requires.0) a.supplier a.element
    (passed (goal.at.line_at-requires c).In_ok-ask_line c.requires.0 c.requires.1))

pub returns : goal.returns
unfolding line_at
returns c o whole =
    let a = c.args in
    line-named (world a.book a.lines.now o) a.supplier a.element
    (passed (goal.at.returns c).In_ok-ask_line o whole) c.line_at.result _ _ (rw c.line_place.ensures at c.line_at.ensures)
