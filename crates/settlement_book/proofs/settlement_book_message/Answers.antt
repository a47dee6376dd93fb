-- The lengths of book and message; then the reply, said in numbers: the book that then stands there is put in the place of the lent one.
use mathlib.Core.Path.{subst}
use borrow.Author.Rules.{rules}
use Rattle.rules.specs.Lent.{Lists, given, open_lists, world_in}
use Rattle.settlement_book.specs.Numbers.{book_in, fields_in}
use Rattle.settlement_book.specs.Promises.{RepliesIn}
use Rattle.settlement_book.proofs.Answers.{replies-in}
use Rattle.settlement_book.proofs.settlement_book_message.Goals as goal

pub returns-clause-replies : goal.returns-clause-replies
returns-clause-replies c sized =
    let a = c.args in
    let o = given a.element_data.now a.prices.now a.links.now a.holders.now a.states.now a.readings.now a.blocks.now a.lines.now
    a.sent.now in
    let m = c.message-reply.new.opened in
    let s = c.message-reply.ensures.same in
    let e = c.put_reply.ensures in
    let k = replies-in o (open_lists m) c.message-reply.result a.records.now c.message-reply.new.records a.book.now c.put_reply.new.book
    c.book_of.ensures c.message-reply.ensures.replied e.book c.put_reply.result a.count.now c.put_reply.new.count c.fields_of.ensures
    e.number e.count in
    subst (λ (l : Lists). RepliesIn (world_in (book_in a.book.now) o) (world_in (book_in c.put_reply.new.book) l) (fields_in a.fields.now)
    c.put_reply.result a.count.now c.put_reply.new.count a.records.now c.message-reply.new.records) (search rules) k
