-- What the functions of this crate add to the changes of lines, and what they ask.
pub mod Moved
pub mod Shares
pub mod Stretches
pub mod Payment
pub mod Fits
pub mod Charges
pub mod PointRows
pub mod Months
pub mod Kinds
pub mod WholeBook
pub mod Posted
pub mod Repaid
