-- `queries::periods_place` meets its contract: it searches the rows in use, which are in order in a book that has passed its questions.
use mathlib.Core.Path.{sym}
use lib.Seq.{length-take-le}
use Rattle.rules.specs.Lent.{lend_links}
use Rattle.tables.specs.Order.{LinkRows, PairFits}
use Rattle.queries.proofs.Answered.{pair_asked, periods-at}
use Rattle.queries.proofs.periods_place.Goals as goal
use Rattle.queries.proofs.periods_place.Goals.{Start}

-- what the search asks
asked : (s : Start)
    → let a = s.args in LinkRows a.links.now a.book.periods × PairFits a.point a.element
asked s = let a = s.args in pair_asked a.book (lend_links a.links.now s.requires.0) a.point a.element s.requires.1

pub slice_bounds-search_pair-end : goal.slice_bounds-search_pair-end
slice_bounds-search_pair-end c =
    sym (length-take-le c.args.book.periods c.args.links.now (asked (goal.at.slice_bounds-search_pair-end c).Start).0.fits)

pub search_pair-requires : goal.search_pair-requires
search_pair-requires c = (asked (goal.at.search_pair-requires c).Start).1

pub returns : goal.returns
returns c o passed =
    let a = c.args in
    periods-at a.book (lend_links a.links.now o) a.point a.element _ _ _ passed c.search_pair.ensures
