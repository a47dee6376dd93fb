-- The lines that moved are the rules' records; they are sent and counted where there is room for them.
use mathlib.Core.Path.{◌≡◌, refl, ap, ap₂, ◌∙◌}
use mathlib.Core.List.{List}
use lib.IntN.{ℤ}
use Rattle.rules.specs.Lent.{Lists, open_lists}
use Rattle.ledger.specs.Moved.{lines_in, line_records, moved_count}
use Rattle.ledger.specs.RecordNumbers.{numbers_after}
use Rattle.settlement.proofs.Stepping.{sent-records, sent-nothing}
use Rattle.settlement.proofs.send.Goals as goal
use Rattle.settlement.proofs.send.Goals.{After-moved_count-count}

-- how many lines have moved
counted : (c : After-moved_count-count) → c.moved_count-count.result
    ≡ moved_count c.args.opened.now.lines.now c.args.opened.now.sent.now (lines_in c.args.opened.now.book)
counted c =
    c.moved_count-count.ensures
    ∙ ap (λ (l : Lists). moved_count l.lines l.sent (lines_in c.args.opened.now.book)) c.lent-lent.ensures.lists

pub returns-then-count-records-clause-sending : goal.returns-then-count-records-clause-sending
returns-then-count-records-clause-sending c =
    let b = c.args.opened.now in
    let n = counted (goal.at.returns-then-count-records-clause-sending c).After-moved_count-count in
    sent-nothing b.book (open_lists b) c.args.records.now _ n c.if-count-records.true _ refl refl

pub returns-clause-sending : goal.returns-clause-sending
returns-clause-sending c =
    let b = c.args.opened.now in
    let n = counted (goal.at.returns-clause-sending c).After-moved_count-count in
    let s = c.send_lines.ensures.sent ∙ ap (λ (l : Lists). l.lines) c.lent.ensures.lists in
    let t : c.take-sent.result.now ≡ b.sent.now = ap (λ x. x.now) c.take-sent.ensures.value in
    let l = c.send_lines.ensures.records
    ∙ ap₂ (λ (l : Lists) (x : List ℤ). numbers_after (line_records b.book l.lines x (lines_in b.book)) c.args.records.now)
    c.lent.ensures.lists t in
    sent-records b.book (open_lists b) c.args.records.now _ n c.if-count-records.false _ c.next_round-opened.ensures _ _ s l
