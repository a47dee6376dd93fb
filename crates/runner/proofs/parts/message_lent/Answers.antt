-- What is lent comes back as the open book has left it.
use mathlib.Core.Path.{subst}
use borrow.Author.Rules.{rules}
use Rattle.rules.specs.Lent.{Lists, given, world_in}
use Rattle.rules.specs.Whole.{Whole}
use Rattle.settlement.specs.Replies.{Replied}
use Rattle.runner.proofs.parts.message_lent.Goals as goal

pub returns-clause-replied : goal.returns-clause-replied
returns-clause-replied c =
    let a = c.args in
    let o = given a.element_data.now a.prices.now a.links.now a.holders.now a.states.now a.readings.now a.blocks.now a.lines.now
    a.sent.now in
    let m = c.message-reply.new.opened in
    let s = c.message-reply.ensures.same in
    subst (λ (l : Lists). Replied (world_in a.book o) (world_in m.book l) a.fields c.message-reply.result a.records.now
    c.message-reply.new.records) (search rules) c.message-reply.ensures.replied

pub returns-clause-whole : goal.returns-clause-whole
returns-clause-whole c =
    let m = c.message-reply.new.opened in
    let s = c.message-reply.ensures.same in
    subst (λ (l : Lists). Whole (world_in m.book l)) (search rules) c.message-reply.ensures.whole
