-- `queries::search_pair` meets its contract: row by row, none that has been read is beyond; it ends at the first that is, or with the last.
use Rattle.queries.proofs.PairSearch.{rows_none, rows_before, rows-own, rows_beyond, rows_all}
use mathlib.Core.Path.{◌≡◌}
use lib.ListN.{length}
use native.Mathlib.Omega.{arith}
use Rattle.queries.proofs.search_pair.Goals as goal
use Rattle.queries.proofs.search_pair.Goals.{then-word-first, else-word-first}

pub loop-read-init : goal.loop-read-init
loop-read-init c = rows_none _ _ _

pub returns-then-bound-word : goal.returns-then-bound-word
returns-then-bound-word c =
    rows_beyond _ _ c.requires.element c.loop-read.invariant (omega arith) (omega arith)

pub loop-read-preserved : goal.loop-read-preserved
loop-read-preserved c =
    elim c.if-word-first.branch [
      | then-word-first w ↦ rw w.place-is (rows_before _ _ c.requires.element c.loop-read.invariant (omega arith) (omega arith))
      | else-word-first w ↦ rw w.place-is
          (rows-own _ _ c.requires.element c.loop-read.invariant (omega arith) (omega arith) (omega arith))
    ]

pub returns : goal.returns
returns c =
    let e : c.loop-read.read ≡ length c.args.rows.now = omega arith in
    rw e at (rows_all _ _ c.requires.element c.loop-read.invariant (omega arith))
