-- No product is large, since the elements are within their limit.
use mathlib.Core.Path.{ap}
use native.Mathlib.Omega.{arith}
use Rattle.rules.specs.WellFormed.{opening_sized}
use Rattle.rules.specs.Lent.{no_lists}
use Rattle.rules.proofs.Tests.{tests}
use Rattle.settlement_book.specs.declared.questions.Lengths.{Lengths}
use Rattle.settlement_book.proofs.questions.opening_sized.Goals as goal

pub overflow_mul-elements : goal.overflow_mul-elements
overflow_mul-elements c = let l = (c.requires no_lists).elements in omega arith

pub overflow_mul-result : goal.overflow_mul-result
overflow_mul-result c = let l = (c.requires no_lists).elements in omega arith

pub returns-then-lengths-elements : goal.returns-then-lengths-elements
unfolding opening_sized
returns-then-lengths-elements c o e =
    let d = ap (λ (l : Lengths). l.element_data) e in
    let p = ap (λ (l : Lengths). l.prices) e in
    grind (arith, tests)

pub returns-else-lengths-elements : goal.returns-else-lengths-elements
unfolding opening_sized
returns-else-lengths-elements c o e =
    let d = ap (λ (l : Lengths). l.element_data) e in
    grind (arith, tests)
