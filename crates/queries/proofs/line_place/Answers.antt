-- `queries::line_place` meets its contract: no product is more than 16 times 64.
use Prim.Native.Nat.{◌≤◌}
use Rattle.rules.specs.Sizes.{most_lines}
use Rattle.queries.proofs.Answered.{place-small}
use native.Mathlib.Omega.{arith}
use Rattle.queries.proofs.line_place.Goals as goal
use Rattle.queries.proofs.line_place.Goals.{After-first_line}

-- the first line is one that a book can have
small : (c : After-first_line) → c.first_line.result ≤ most_lines
small c =
    rw c.first_line.ensures (place-small c.args.elements c.args.supplier c.requires.le_supplier.1 c.requires.elements_le_most_elements.0)

pub first_line-requires : goal.first_line-requires
first_line-requires c = (c.requires.le_supplier.0, c.requires.le_supplier.1, c.requires.elements_le_most_elements.0)

pub overflow_add-result : goal.overflow_add-result
overflow_add-result c = omega (arith, small c)

pub overflow_mul-result : goal.overflow_mul-result
overflow_mul-result c = omega (arith, small c)

pub returns : goal.returns
returns c = rw c.first_line.ensures
