-- `queries::find_day` meets its contract: the first day of the month that the chain finds is the definition's.
use Rattle.std.proofs.Common.{rules, tests, ◌≡◌, ◌+◌, ◌-◌, ◌≤◌, ◌∙◌, sym, refl, arith}
use Rattle.std.proofs.lemmas.Iterator.{YieldsList-from_range, serves_from_Range}
use Rattle.std.proofs.lemmas.Iterator.Adapters.{option_map_id}
use Rattle.std.proofs.lemmas.Iterator.Search.{find_from_yields_List}
use Rattle.calendar.proofs.MonthLaws.{month-within}
use Rattle.rules.specs.Lent.{lent_opening, lent_tables}
use Rattle.rules.specs.World.{month_first, month_days}
use Rattle.rules.specs.Queries.{lacks_holder, earliest_without_holder}
use Rattle.queries.proofs.Lacks.{first_from-find}
use Rattle.queries.proofs.find_day.Goals as goal

pub overflow_add-first : goal.overflow_add-first
overflow_add-first c =
    let w = month-within c.args.lent.now.book.year c.args.lent.now.book.month c.requires.month.month in
    omega arith

pub find-requires-clause-callable : goal.find-requires-clause-callable
find-requires-clause-callable c =
    let w = month-within c.args.lent.now.book.year c.args.lent.now.book.month c.requires.month.month in
    let k : c.month_first-first.result + c.month_days-days.result ≤ 36525 = omega arith in
    serves_from_Range (λ x q s. search rules) (λ x l h. search rules)

pub returns : goal.returns
unfolding earliest_without_holder month_first month_days
returns c =
    let l = c.args.lent.now in
    let f = lacks_holder (lent_opening l) (lent_tables l) c.args.point in
    let first = c.month_first-first.result in
    let days = c.month_days-days.result in
    let n : first + days - first ≡ days = omega arith in
    sym (option_map_id c.find.result)
    ∙ find_from_yields_List {v = λ x. x} f _ _ _ c.find.ensures.ran (YieldsList-from_range first (first + days) days refl n)
    (λ x b q k. search (rules, tests))
    ∙ sym (rw (← c.month_first-first.ensures, ← c.month_days-days.ensures) (first_from-find f first days))
