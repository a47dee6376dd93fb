-- `queries::search_pair` meets its contract: row by row, none that has been read is beyond; it ends at the first that is, or with the last.
use Rattle.queries.proofs.PairSearch.{RowsRead}
use Rattle.queries.proofs.search_pair.Given as goal

abbrev pub invariant-loop-read : goal.invariant-loop-read
invariant-loop-read l = RowsRead l.point l.element l.rows l.place l.read
