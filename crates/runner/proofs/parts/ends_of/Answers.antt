-- `ends_of` meets its contract: 16 points of 31 days, and 16 suppliers of 64 elements, are few enough for every product.
use Prim.Native.Nat.{◌*◌, ◌≤◌}
use native.Mathlib.Nat.{mul-le-mul}
use Rattle.calendar.specs.Gregorian.{longest_month}
use Rattle.rules.specs.Sizes.{most_elements, most_suppliers}
use Rattle.file.specs.Program.{settle_points}
use Rattle.runner.specs.Parts.{ends_of}
use Rattle.runner.proofs.PartLaws.{month-fits}
use native.Mathlib.Omega.{arith}
use Rattle.runner.proofs.parts.ends_of.Goals as goal

pub overflow_mul-result-3 : goal.overflow_mul-result-3
overflow_mul-result-3 c =
    let a = c.args.book in
    let h : a.points * c.month_days-days.result ≤ settle_points * longest_month =
    rw c.month_days-days.ensures (month-fits a.points a.year a.month c.requires.0.points) in
    omega arith

pub overflow_mul-result-4 : goal.overflow_mul-result-4
overflow_mul-result-4 c =
    let a = c.args.book in
    let h : a.points * c.month_days-days.result ≤ settle_points * longest_month =
    rw c.month_days-days.ensures (month-fits a.points a.year a.month c.requires.0.points) in
    omega arith

pub overflow_mul-result-5 : goal.overflow_mul-result-5
overflow_mul-result-5 c =
    let a = c.args.book in
    let h : a.suppliers * a.elements ≤ most_suppliers * most_elements =
    mul-le-mul c.requires.0.suppliers c.requires.0.elements in
    omega arith

pub overflow_mul-result-6 : goal.overflow_mul-result-6
overflow_mul-result-6 c =
    let a = c.args.book in
    let h : a.suppliers * a.elements ≤ most_suppliers * most_elements =
    mul-le-mul c.requires.0.suppliers c.requires.0.elements in
    omega arith

pub returns : goal.returns
unfolding ends_of
returns c = rw c.month_days-days.ensures
