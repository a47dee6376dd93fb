-- What the search for a day without a holder needs: rows in order, and a point of the book.
use Rattle.std.specs.Prelude.{ℕ, ◌≤◌, ◌<◌}
use Rattle.rules.specs.Whole.{Dated}
use Rattle.rules.specs.declared.Lent.{Lent}
use Rattle.rules.specs.Sizes.{holder_size, most_elements, most_points, state_size}
use Rattle.tables.specs.Order.{LinkRows, ValueRows}

-- a book whose rows are in order, and one of its points
pub record PointAsked (l : Lent) (p : ℕ) : Type 0 where
  pub month : Dated l.book
  pub points : l.book.points ≤ most_points
  pub elements : l.book.elements ≤ most_elements
  pub point : p < l.book.points
  pub links : LinkRows l.links.now l.book.periods
  pub holders : ValueRows holder_size l.holders.now l.book.holders
  pub states : ValueRows state_size l.states.now l.book.states
