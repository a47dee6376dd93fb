-- Questions 7 and 8, then the place of the pair in the link table of a well-formed book.
use mathlib.Core.Path.{◌≡◌, refl, sym, subst, ◌∙◌}
use Rattle.rules.specs.declared.Book.{Book}
use Rattle.rules.specs.Lent.{Lists, world_in, lend_links}
use Rattle.rules.specs.Queries.{periods_number}
use Rattle.rules.specs.Whole.{Whole}
use Rattle.queries.proofs.Asks.{refused_not, periods-asks}
use Rattle.settlement_book.specs.Numbers.{book_in}
use Rattle.settlement_book.specs.Promises.{PeriodsIn}
use Rattle.settlement_book.proofs.Answers.{whole_as, periods-refused_in}
use Rattle.settlement_book.proofs.settlement_book_periods_within.Goals as goal
use Rattle.settlement_book.proofs.settlement_book_periods_within.Goals.{In_default}

-- no question says no
passed : (c : In_default) (o : Lists) → Whole (world_in (book_in c.args.book.now) (lend_links c.args.links.now o))
    → periods_number (world_in c.book_of-held.result (lend_links c.args.links.now o)) c.args.point c.args.element ≡ 0
passed c o whole =
    sym (c.in_default.ensures
    ∙ periods-asks (world_in c.book_of-held.result (lend_links c.args.links.now o)) (whole_as c.book_of-held.ensures whole) _ _)

pub returns-in-Err : goal.returns-in-Err
returns-in-Err c o whole =
    let a = c.args in
    subst (λ (b : Book). PeriodsIn (world_in b (lend_links a.links.now o)) a.point a.element c.number.result
    a.place.now a.place.now a.count.now a.count.now 0)
    c.book_of-held.ensures
    (periods-refused_in _ a.point a.element _
    (c.number.ensures ∙ c.in-Err.ensures
    ∙ periods-asks (world_in c.book_of-held.result (lend_links a.links.now o)) (whole_as c.book_of-held.ensures whole) _ _)
    (λ z. refused_not c.in-Err.refusal (sym c.number.ensures ∙ z)) a.place.now a.count.now)

pub periods_place-part-requires : goal.periods_place-part-requires
periods_place-part-requires c = (c.requires.whole.0, passed c c.requires.whole.0 c.requires.whole.1)

pub returns : goal.returns
returns c o whole =
    let a = c.args in
    let part = c.periods_place-part.result in
    let k = passed (goal.at.returns c).In_default o whole in
    let at = c.periods_place-part.ensures o k in
    subst (λ (b : Book). PeriodsIn
    (world_in b (lend_links c.args.links.now o)) a.point a.element 0 a.place.now part.place a.count.now
    part.count part.read) c.book_of-held.ensures
    (record { number = sym k; refused = λ z. absurd (z refl); answered = λ _. at.0; read = at.1 })
