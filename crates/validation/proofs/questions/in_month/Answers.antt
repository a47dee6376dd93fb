-- A month ends within the calendar.
use Rattle.calendar.proofs.MonthLaws.{month-within}
use native.Mathlib.Omega.{arith}
use Rattle.validation.proofs.questions.in_month.Goals as goal

pub overflow_add-first : goal.overflow_add-first
overflow_add-first c =
    let h = month-within c.args.lent.now.book.year c.args.lent.now.book.month c.requires.month.month in omega arith
