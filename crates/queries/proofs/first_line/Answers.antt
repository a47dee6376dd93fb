-- `queries::first_line` meets its contract: the product is at most 15 times 64.
use Rattle.queries.proofs.Answered.{place-small}
use native.Mathlib.Omega.{arith}
use Rattle.queries.proofs.first_line.Goals as goal

pub overflow_mul-result : goal.overflow_mul-result
overflow_mul-result c =
    let m = place-small c.args.elements c.args.supplier c.requires.1 c.requires.2 in
    omega arith
