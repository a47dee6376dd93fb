-- The place is that of the rules, and has a reading by the table's length.
use Prim.Native.Nat.{◌≤◌}
use Rattle.rules.specs.Lent.{open_lists}
use Rattle.facts.proofs.ReadingLaws.{place-small}
use Rattle.recording.proofs.Leaves.{reading-left}
use borrow.Author.Rules.{rules}
use Rattle.recording.proofs.messages.write_reading.Goals as goal

pub offset_bounds-opened-at : goal.offset_bounds-opened-at
offset_bounds-opened-at c =
    let a = c.args in
    let o = open_lists a.opened.now in
    let small = place-small a.opened.now.book o a.point a.day a.hour c.requires.of_month in
    let small' : c.reading_place-at.result ≤ 1100000 = rw (c.reading_place-at.ensures o) small in
    search rules

pub bounds-opened-at : goal.bounds-opened-at
bounds-opened-at c =
    let o = open_lists c.args.opened.now in
    rw (c.reading_place-at.ensures o) (c.requires.place o)

pub returns-clause-recorded : goal.returns-clause-recorded
returns-clause-recorded c =
    let a = c.args in
    let o = open_lists a.opened.now in
    reading-left a.opened.now.book o a.point a.day a.hour a.energy _ (c.reading_place-at.ensures o)
