-- What the reading adds to the lines is the rules', so the test is question 17, and a refusal has written nothing.
use mathlib.Core.Path.{◌≡◌, refl, sym, ap, ap₂, subst}
use Rattle.rules.specs.declared.Body.{Body}
use Rattle.rules.specs.declared.Body.TheVariants.{Reading}
use Rattle.rules.specs.World.{World}
use Rattle.rules.specs.Lent.{world_in, lent_world, open_lists, open_world}
use Rattle.rules.proofs.Parts.{dated}
use Rattle.posting.specs.Posted.{Postable, charging}
use Rattle.metering.specs.Hours.{ReadingSettled}
use Rattle.recording.proofs.Passed.{reading-fits}
use Rattle.settlement.proofs.Applying.{postable_in}
use Rattle.settlement.proofs.ReadingApplied.{lines-asked, reading_applied, reading-refused}
use Rattle.settlement.proofs.apply_reading.Goals as goal
use Rattle.settlement.proofs.apply_reading.Goals.{Start, After-take-lines, After-lent, After-settle_reading-fits}

abbrev body_of : Start → Body
body_of s = Reading s.args.new.point s.args.new.day s.args.new.hour s.args.new.energy

taken : (c : After-take-lines) → c.take-lines.result.now ≡ c.args.opened.now.lines.now
taken c = ap (λ x. x.now) c.take-lines.ensures.value

-- what is lent is the open book without its lines
without_lines : (c : After-lent) → lent_world c.lent.result
    ≡ (let w = open_world c.args.opened.now in record w { position = record w.position { lines = c.take-lines.new.dest.now } })
without_lines c = ap₂ world_in c.lent.ensures.book c.lent.ensures.lists

pub settle_reading-fits-requires : goal.settle_reading-fits-requires
settle_reading-fits-requires c =
    let b = c.args.opened.now in
    let body = body_of (goal.at.settle_reading-fits-requires c).Start in
    let e = without_lines (goal.at.settle_reading-fits-requires c).After-lent in
    let t = taken (goal.at.settle_reading-fits-requires c).After-take-lines in
    record {
      postable = subst (λ (w : World). Postable w.opening (charging w.position.tables) body) (sym e)
          (postable_in b.book (open_lists b) body c.requires);
      lines = rw (t, c.lent.ensures.book) (lines-asked b.book (open_lists b) c.requires.whole);
      dated = rw c.lent.ensures.book (dated b.book (open_lists b) c.requires.whole);
    }

settled : (c : After-settle_reading-fits) → (let w = open_world c.args.opened.now in
    ReadingSettled w.opening w.position.tables (body_of (goal.at.After-settle_reading-fits c).Start) w.position.lines
    c.settle_reading-fits.new.lines c.settle_reading-fits.result)
settled c =
    let body = body_of (goal.at.After-settle_reading-fits c).Start in
    let e = without_lines (goal.at.After-settle_reading-fits c).After-lent in
    let t = taken (goal.at.After-settle_reading-fits c).After-take-lines in
    rw (← t) (subst (λ (w : World). ReadingSettled w.opening w.position.tables body c.take-lines.result.now
    c.settle_reading-fits.new.lines c.settle_reading-fits.result) e c.settle_reading-fits.ensures)

pub returns-then-not-fits-clause-applied : goal.returns-then-not-fits-clause-applied
returns-then-not-fits-clause-applied c =
    let b = c.args.opened.now in
    let g = settled (goal.at.returns-then-not-fits-clause-applied c).After-settle_reading-fits in
    reading-refused b.book (open_lists b) _ _ _ _ c.requires.whole _ _ g c.if-not-fits.true _ refl

pub write_reading-requires : goal.write_reading-requires
write_reading-requires c =
    let b = c.args.opened.now in
    reading-fits b.book (open_lists b) (dated b.book (open_lists b) c.requires.whole) _ _ _ _ c.requires.ready

pub returns-clause-applied : goal.returns-clause-applied
returns-clause-applied c =
    let b = c.args.opened.now in
    let g = settled (goal.at.returns-clause-applied c).After-settle_reading-fits in
    reading_applied b.book (open_lists b) _ _ _ _ c.requires.whole _ _ g c.if-not-fits.false _ c.write_reading.ensures.recorded
