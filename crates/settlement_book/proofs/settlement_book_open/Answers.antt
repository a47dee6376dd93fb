-- The book that the lent numbers name is opened, and the numbers of the book that then stands there are put in their place.
use mathlib.Core.Path.{refl, ap, subst, ◌∙◌}
use lib.ListN.{get_or}
use borrow.Author.Rules.{rules}
use Rattle.rules.specs.declared.Book.{Book}
use Rattle.rules.specs.Lent.{Lists, given, open_lists, world_in}
use Rattle.recording.specs.Opened.{named_book}
use Rattle.queries.proofs.Asks.{refused_not}
use Rattle.settlement_book.specs.Numbers.{fresh_in}
use Rattle.settlement_book.specs.Promises.{OpensIn}
use Rattle.settlement_book.proofs.Answers.{opens-in, stays-in}
use Rattle.settlement_book.proofs.settlement_book_open.Goals as goal

pub returns-in-Ok-clause-opens : goal.returns-in-Ok-clause-opens
returns-in-Ok-clause-opens c sized =
    let a = c.args in
    let n = a.book.now in
    let o = given a.element_data.now a.prices.now a.links.now a.holders.now a.states.now a.readings.now a.blocks.now a.lines.now
    a.sent.now in
    let s = c.in-Ok.ensures.same in
    let k = opens-in (get_or n 0 0) (get_or n 1 0) (get_or n 2 0) (get_or n 3 0) (get_or n 4 0) o (open_lists c.open_book.new.opened)
    c.named_book.result c.open_book.new.opened.book 0
    (c.named_book.ensures ∙ ap (λ (b : Book). named_book b.year b.month b.points b.suppliers b.elements) c.book_of-named.ensures)
    c.in-Ok.ensures.number c.in-Ok.ensures.world refl n c.put_book.new.numbers c.put_book.ensures in
    subst (λ (l : Lists). OpensIn (world_in (fresh_in n) o) (world_in (fresh_in n) l) n c.put_book.new.numbers 0) (search rules) k

pub returns-in-Err-clause-opens : goal.returns-in-Err-clause-opens
returns-in-Err-clause-opens c sized =
    let a = c.args in
    let n = a.book.now in
    let o = given a.element_data.now a.prices.now a.links.now a.holders.now a.states.now a.readings.now a.blocks.now a.lines.now
    a.sent.now in
    let s = c.in-Err.ensures.same in
    let k = stays-in (get_or n 0 0) (get_or n 1 0) (get_or n 2 0) (get_or n 3 0) (get_or n 4 0) o (open_lists c.open_book.new.opened)
    c.named_book.result c.open_book.new.opened.book _
    (c.named_book.ensures ∙ ap (λ (b : Book). named_book b.year b.month b.points b.suppliers b.elements) c.book_of-named.ensures)
    c.in-Err.ensures.number c.in-Err.ensures.world (refused_not c.in-Err.refusal) c.number-in-Err.result c.number-in-Err.ensures n in
    subst (λ (l : Lists). OpensIn (world_in (fresh_in n) o) (world_in (fresh_in n) l) n n c.number-in-Err.result) (search rules) k
