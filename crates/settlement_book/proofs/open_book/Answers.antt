-- Where questions 2 to 4 pass, cleared tables are those of the opened book.
use Rattle.std.proofs.Common.{arith, ◌≡◌, sym, ap, subst, ◌∙◌}
use Rattle.std.proofs.lemmas.Grind.{common_steps}
use borrow.Author.Tests.{ne_eqb}
use Rattle.calendar.specs.Gregorian.{InRange}
use Rattle.recording.specs.Opened.{fresh_book}
use Rattle.rules.specs.declared.Book.{Book}
use Rattle.rules.specs.Opening.{opening_answer, after_opening}
use Rattle.rules.specs.Lent.{lists_of, lent_world, open_lists, open_world}
use Rattle.queries.proofs.Asks.{refused_not}
use Rattle.settlement_book.proofs.Answers.{lent-open, limited-month, opened-world, opened-whole}
use Rattle.settlement_book.proofs.open_book.Goals as goal
use Rattle.settlement_book.proofs.open_book.Goals.{After-of, In_ok-check_opening, After-fresh_book-opened}

-- what is lent is what is open
asked_is : (c : After-of) → opening_answer (lent_world c.lent-lent.result) ≡ opening_answer (open_world c.args.opened.now)
asked_is c =
    ap opening_answer (lent-open c.lent-lent.result c.args.opened.now c.lent-lent.ensures.book c.lent-lent.ensures.lists)

pub check_opening-requires : goal.check_opening-requires
check_opening-requires c = (lists_of c.lent-lent.result, sym c.of.ensures)

-- questions 2 to 4 have passed
passed : (c : In_ok-check_opening) → opening_answer (open_world c.args.opened.now) ≡ 0
passed c =
    sym (asked_is (goal.at.In_ok-check_opening c).After-of)
    ∙ sym (c.in_ok-check_opening.ensures (lists_of c.lent-lent.result) (sym c.of.ensures))

pub returns-in_err-check_opening-clause-number : goal.returns-in_err-check_opening-clause-number
returns-in_err-check_opening-clause-number c =
    let e = c.in_err-check_opening.ensures (lists_of c.lent-lent.result) (sym c.of.ensures)
    ∙ asked_is (goal.at.returns-in_err-check_opening-clause-number c).After-of in
    grind (arith, common_steps)

pub returns-in_err-check_opening-clause-world : goal.returns-in_err-check_opening-clause-world
unfolding after_opening
returns-in_err-check_opening-clause-world c =
    let e = c.in_err-check_opening.ensures (lists_of c.lent-lent.result) (sym c.of.ensures)
    ∙ asked_is (goal.at.returns-in_err-check_opening-clause-world c).After-of in
    rw (ne_eqb (opening_answer (open_world c.args.opened.now)) 0 (λ z. refused_not c.in_err-check_opening.field-0.0 (e ∙ z)))

pub returns-clause-number : goal.returns-clause-number
returns-clause-number c = sym (passed (goal.at.returns-clause-number c).In_ok-check_opening)

pub fresh_book-opened-requires : goal.fresh_book-opened-requires
fresh_book-opened-requires c =
    subst (λ (b : Book). InRange b.year b.month) (sym c.clear_tables.ensures.book)
    (limited-month (open_world c.args.opened.now) (passed (goal.at.fresh_book-opened-requires c).In_ok-check_opening))

-- the book that then stands there
fresh_is : (c : After-fresh_book-opened) → let b = c.args.opened.now.book in
    c.fresh_book-opened.result ≡ fresh_book b.year b.month b.points b.suppliers b.elements
fresh_is c =
    c.fresh_book-opened.ensures ∙ ap (λ (b : Book). fresh_book b.year b.month b.points b.suppliers b.elements) c.clear_tables.ensures.book

pub returns-clause-world : goal.returns-clause-world
returns-clause-world c =
    let b = c.args.opened.now in
    opened-world b.book c.fresh_book-opened.result (open_lists b) _ (passed (goal.at.returns-clause-world c).In_ok-check_opening)
    (fresh_is (goal.at.returns-clause-world c).After-fresh_book-opened) c.clear_tables.ensures.cleared

pub returns-clause-whole : goal.returns-clause-whole
returns-clause-whole c z =
    let b = c.args.opened.now in
    opened-whole b.book c.fresh_book-opened.result (open_lists b) _ (passed (goal.at.returns-clause-whole c).In_ok-check_opening)
    (fresh_is (goal.at.returns-clause-whole c).After-fresh_book-opened) c.clear_tables.ensures.cleared
