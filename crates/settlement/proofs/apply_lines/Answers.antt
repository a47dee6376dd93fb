-- The changes are the rules', so the test is question 17, and what is written is the rules' next position; a refusal has written nothing.
use mathlib.Core.Path.{◌≡◌, refl, sym, ap, subst, ◌∙◌}
use Rattle.rules.specs.World.{World, line_count}
use Rattle.rules.specs.Lent.{lists_of, lent_world, open_lists, open_world}
use Rattle.rules.specs.Effects.{question17}
use Rattle.recording.specs.Recorded.{recorded_in}
use Rattle.ledger.specs.Added.{added_lines, quantities_of, amounts_of}
use Rattle.ledger.specs.Moved.{lines_in}
use Rattle.rules.proofs.Parts.{lengths, dated}
use Rattle.tables.proofs.Right.{whole-rows}
use Rattle.facts.specs.Links.{link_ends}
use Rattle.facts.proofs.LinkLaws.{link_fits, ends-below}
use Rattle.recording.proofs.Passed.{row_fits}
use Rattle.settlement.specs.Replies.{ReadyIn, Applied}
use Rattle.settlement.proofs.Stepping.{lent_is}
use Rattle.settlement.proofs.Applying.{postable_in, zeros, zeros_room, changed, posted_rules, fits-is, applied, applied_not}
use Rattle.settlement.proofs.apply_lines.Goals as goal
use Rattle.settlement.proofs.apply_lines.Goals.{After-lent-lent, After-is_fitting, After-write_rows}

-- what is lent is the open book's
same_world : (c : After-lent-lent) → lent_world c.lent-lent.result ≡ open_world c.args.opened.now
same_world c = lent_is c.lent-lent.result c.args.opened.now c.lent-lent.ensures.book c.lent-lent.ensures.lists

ready : (c : After-lent-lent) → ReadyIn (lent_world c.lent-lent.result) c.args.body
ready c = subst (λ (w : World). ReadyIn w c.args.body) (sym (same_world c)) c.requires.ready_in

pub link_ends-ends-requires : goal.link_ends-ends-requires
link_ends-ends-requires c =
    let l = c.lent-lent.result in
    let r = ready (goal.at.link_ends-ends-requires c).After-lent-lent in
    record {
      links = (whole-rows l.book (lists_of l) r.whole).links;
      link_fits = link_fits l.book (lists_of l) c.args.body r.ready (lengths (lent_world l) r.whole).element_data;
    }

pub post-requires-clause-postable : goal.post-requires-clause-postable
post-requires-clause-postable c =
    let l = c.lent-lent.result in
    postable_in l.book (lists_of l) c.args.body (ready (goal.at.post-requires-clause-postable c).After-lent-lent)

pub post-requires-clause-room : goal.post-requires-clause-room
unfolding zeros
post-requires-clause-room c =
    let r = ready (goal.at.post-requires-clause-room c).After-lent-lent in
    zeros_room c.lent-lent.result.book.elements r.ready.limited.elements

pub post-requires-clause-dated : goal.post-requires-clause-dated
post-requires-clause-dated c =
    let l = c.lent-lent.result in
    dated l.book (lists_of l) (ready (goal.at.post-requires-clause-dated c).After-lent-lent).whole

pub is_fitting-requires : goal.is_fitting-requires
unfolding zeros
is_fitting-requires c =
    let l = c.lent-lent.result in
    let r = ready (goal.at.is_fitting-requires c).After-lent-lent in
    record {
      table_rows = whole-rows l.book (lists_of l) r.whole;
      row_fits = row_fits l.book (lists_of l) c.args.body c.requires.body_value r.ready;
      changes = changed l.book (lists_of l) c.args.body _ c.post.ensures r;
    }

-- the code's test is question 17
asked : (c : After-is_fitting) → question17 (lent_world c.lent-lent.result) c.args.body ≡ c.is_fitting.result
unfolding zeros
asked c =
    let l = c.lent-lent.result in
    fits-is l.book (lists_of l) c.args.body _ _ (posted_rules l.book (lists_of l) c.args.body _ c.post.ensures) _ c.is_fitting.ensures

pub returns-then-not-is_fitting-clause-applied : goal.returns-then-not-is_fitting-clause-applied
returns-then-not-is_fitting-clause-applied c =
    let q = asked (goal.at.returns-then-not-is_fitting-clause-applied c).After-is_fitting in
    let e = same_world (goal.at.returns-then-not-is_fitting-clause-applied c).After-lent-lent in
    rw (← e) (applied_not _ _ c.args.body (q ∙ c.if-not-is_fitting.true) refl)

pub write_rows-requires-clause-table_rows : goal.write_rows-requires-clause-table_rows
write_rows-requires-clause-table_rows c =
    let b = c.args.opened.now in
    whole-rows b.book (open_lists b) c.requires.ready_in.whole

pub write_rows-requires-clause-row_fits : goal.write_rows-requires-clause-row_fits
write_rows-requires-clause-row_fits c =
    let b = c.args.opened.now in
    let l = c.lent-lent.result in
    let e = c.link_ends-ends.ensures in
    let r = ready (goal.at.write_rows-requires-clause-row_fits c).After-lent-lent in (
      row_fits b.book (open_lists b) c.args.body c.requires.body_value c.requires.ready_in.ready,
      rw e (ends-below l.book (lists_of l) c.args.body r.ready),
    )

-- the world with the message recorded
recorded : (c : After-write_rows) → open_world c.write_rows.new.opened ≡ recorded_in (lent_world c.lent-lent.result) c.args.body
recorded c =
    let e = same_world (goal.at.After-write_rows c).After-lent-lent in
    let ends = c.link_ends-ends.ensures ∙ ap (λ (w : World). link_ends w.opening w.position.tables c.args.body) e in
    c.write_rows.ensures.recorded ends ∙ ap (λ (w : World). recorded_in w c.args.body) (sym e)

pub commit_lines-requires : goal.commit_lines-requires
unfolding zeros line_count
commit_lines-requires c =
    let l = c.lent-lent.result in
    let r = ready (goal.at.commit_lines-requires c).After-lent-lent in
    let e = ap (λ (w : World). w.position.lines) (recorded (goal.at.commit_lines-requires c).After-write_rows) in
    rw e (changed l.book (lists_of l) c.args.body _ c.post.ensures r)

pub returns-clause-applied : goal.returns-clause-applied
unfolding zeros line_count
returns-clause-applied c =
    let l = c.lent-lent.result in
    let m = recorded (goal.at.returns-clause-applied c).After-write_rows in
    let e = same_world (goal.at.returns-clause-applied c).After-lent-lent in
    let q = asked (goal.at.returns-clause-applied c).After-is_fitting ∙ c.if-not-is_fitting.false in
    let lines = c.commit_lines.ensures
    ∙ ap (λ (w : World). added_lines w.position.lines (quantities_of c.post.new.changes) (amounts_of c.post.new.changes)
    (lines_in l.book)) m in
    let n = open_world c.write_rows.new.opened in
    let after : World = record n { position = record n.position { lines = c.commit_lines.new.lines } } in
    subst (λ (w : World). Applied w after c.args.body 0) e
    (applied l.book (lists_of l) c.args.body _ _ (posted_rules l.book (lists_of l) c.args.body _ c.post.ensures) q _ m _ lines)
