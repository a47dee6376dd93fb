-- No product is large, since the counts are within their limits.
use Prim.Native.Nat.{◌*◌, ◌≤◌}
use mathlib.Core.Path.{ap}
use native.Mathlib.Omega.{arith}
use Rattle.rules.specs.Sizes.{most_lines}
use Rattle.rules.proofs.Parts.{few-lines}
use Rattle.rules.specs.World.{line_count}
use Rattle.rules.specs.WellFormed.{lines_sized, line_places}
use Rattle.rules.specs.Lent.{no_lists}
use Rattle.rules.proofs.Tests.{tests}
use Rattle.settlement_book.specs.declared.questions.Lengths.{Lengths}
use Rattle.settlement_book.proofs.questions.lines_sized.Goals as goal
use Rattle.settlement_book.proofs.questions.lines_sized.Goals.{Start}

lines_few : (s : Start) → s.args.book.suppliers * s.args.book.elements ≤ most_lines
lines_few s = few-lines s.args.book.suppliers s.args.book.elements (s.requires no_lists).suppliers (s.requires no_lists).elements

pub overflow_mul-count : goal.overflow_mul-count
overflow_mul-count c = let k = lines_few (goal.at.overflow_mul-count c).Start in omega arith

pub overflow_mul-count-2 : goal.overflow_mul-count-2
overflow_mul-count-2 c = let k = lines_few (goal.at.overflow_mul-count-2 c).Start in omega arith

pub returns-then-lengths-count : goal.returns-then-lengths-count
unfolding lines_sized line_places line_count
returns-then-lengths-count c o e =
    let l = ap (λ (l : Lengths). l.lines) e in
    let s = ap (λ (l : Lengths). l.sent) e in
    grind (arith, tests)

pub returns-else-lengths-count : goal.returns-else-lengths-count
unfolding lines_sized line_places line_count
returns-else-lengths-count c o e =
    let l = ap (λ (l : Lengths). l.lines) e in
    grind (arith, tests)
