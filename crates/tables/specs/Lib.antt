-- What the contracts of this crate cite beside the rules: rows in order, tables with zeros behind their rows, what a search finds, and
-- the rows of a point.
pub mod Order
pub mod Search
pub mod RowRange
pub mod Tests
