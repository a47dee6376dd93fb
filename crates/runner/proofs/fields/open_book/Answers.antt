-- The book's line, and its parts are cleared; or the refusal.
use mathlib.Core.Path.{◌≡◌, refl, sym, subst}
use Rattle.calendar.specs.Gregorian.{days_of_month, first_day}
use Rattle.rules.specs.declared.Book.{Book}
use Rattle.rules.specs.Whole.{Dated}
use Rattle.file.specs.Lines.{longest_line, book_line, Written}
use Rattle.file.specs.Program.{settle_answer}
use Rattle.runner.specs.Parts.{lists_in, Fitted, fronts_opening}
use Rattle.validation.proofs.Next.{refuses}
use native.Mathlib.Omega.{arith}
use Rattle.runner.proofs.OpenLaws.{open_month, fresh-ready, cleared_by, book_opens, book_stays}
use Rattle.runner.proofs.fields.open_book.Goals as goal
use Rattle.runner.proofs.fields.open_book.Goals.{After-fresh_book-fresh, After-put_book-written}

pub returns-in-Err-clause-advances : goal.returns-in-Err-clause-advances
returns-in-Err-clause-advances c h values v =
    let t = lists_in c.args.store.now in
    let k = refuses c.in-Err.refusal in
    book_stays c.args.book t h values v _ (c.in-Err.ensures t) (λ y. absurd (omega (arith, k, y))) _ _ _ _ _ _ _ (c.refuse.ensures t)

-- the fresh book fits the tables, and has the dates of its month
fresh_fits : (c : After-fresh_book-fresh) → settle_answer (fronts_opening c.args.book (lists_in c.args.store.now)) ≡ 0
    → Fitted c.fresh_book-fresh.result × Dated c.fresh_book-fresh.result
fresh_fits c h = subst (λ (x : Book). Fitted x × Dated x) (sym c.fresh_book-fresh.ensures)
    (fresh-ready c.args.book _ c.requires.sized.tables h)

pub fresh_book-fresh-requires : goal.fresh_book-fresh-requires
fresh_book-fresh-requires c =
    open_month c.args.book (lists_in c.args.store.now)
    (sym (c.in_default.ensures (lists_in c.args.store.now)))

pub clear_parts-requires-clause-fitted : goal.clear_parts-requires-clause-fitted
clear_parts-requires-clause-fitted c =
    fresh_fits (goal.at.clear_parts-requires-clause-fitted c).After-fresh_book-fresh
    (sym (c.in_default.ensures (lists_in c.args.store.now)))

pub clear_parts-requires-clause-sized : goal.clear_parts-requires-clause-sized
clear_parts-requires-clause-sized c = (lists_in c.args.store.now, c.requires.sized.tables)

pub month_days-days-requires : goal.month_days-days-requires
month_days-days-requires c =
    (fresh_fits (goal.at.month_days-days-requires c).After-fresh_book-fresh
    (sym (c.in_default.ensures (lists_in c.args.store.now)))).1

pub month_first-first-requires : goal.month_first-first-requires
month_first-first-requires c =
    (fresh_fits (goal.at.month_first-first-requires c).After-fresh_book-fresh
    (sym (c.in_default.ensures (lists_in c.args.store.now)))).1

-- the book's line
line : (c : After-put_book-written) → let b = c.args.book in
    Written longest_line c.args.out.now c.put_book-written.new.out c.args.from c.put_book-written.result
    (book_line b.year b.month (days_of_month b.year b.month) (first_day b.year b.month))
line c = rw (c.month_days-days.ensures, c.month_first-first.ensures, c.fresh_book-fresh.ensures) at c.put_book-written.ensures

pub returns-then-last-clause-advances : goal.returns-then-last-clause-advances
returns-then-last-clause-advances c h values v =
    let t = lists_in c.args.store.now in
    book_opens c.args.book t h values v _ c.requires.sized.tables
    (sym (c.in_default.ensures (lists_in c.args.store.now)))
    (cleared_by _ _ t _ c.fresh_book-fresh.ensures (c.clear_parts.ensures t)) _ _ _ _ _ c.args.last _ (λ x k. rw c.if-last.true refl)
    (line (goal.at.returns-then-last-clause-advances c).After-put_book-written)

pub returns-else-last-clause-advances : goal.returns-else-last-clause-advances
returns-else-last-clause-advances c h values v =
    let t = lists_in c.args.store.now in
    book_opens c.args.book t h values v _ c.requires.sized.tables
    (sym (c.in_default.ensures (lists_in c.args.store.now)))
    (cleared_by _ _ t _ c.fresh_book-fresh.ensures (c.clear_parts.ensures t)) _ _ _ _ _ c.args.last _
    (λ x k. rw (c.if-last.false, c.fresh_book-fresh.ensures) k)
    (line (goal.at.returns-else-last-clause-advances c).After-put_book-written)
