-- Cleared tables of their exact lengths are those of an opened book.
use Prim.Native.Nat.{ℕ}
use mathlib.Core.Path.{◌≡◌}
use Rattle.rules.specs.World.{table_of, month_first, month_days, line_count}
use Rattle.rules.specs.WellFormed.{line_places}
use Rattle.rules.specs.Opening.{opening_answer, opened}
use Rattle.rules.specs.Lent.{Lists, world_in}
use Rattle.rules.proofs.Parts.{lengths_asked}
use Rattle.rules.proofs.Begin.{passed}
use Rattle.recording.specs.Opened.{fresh_book, cleared}

-- questions 2 and 3 give every table its exact length
pub opened-cleared : (year month points suppliers elements : ℕ) (o : Lists)
    → opening_answer (world_in (fresh_book year month points suppliers elements) o) ≡ 0
    → world_in (fresh_book year month points suppliers elements) (cleared o) ≡ opened
    (world_in (fresh_book year month points suppliers elements) o)
unfolding month_first month_days opened table_of line_places line_count
opened-cleared year month points suppliers elements o h =
    let w = world_in (fresh_book year month points suppliers elements) o in
    let p = passed w h in
    let n = lengths_asked w p.limited p.sized in
    rw (n.links.1, n.holders.1, n.states.1, n.readings, n.blocks, n.lines, n.sent)
