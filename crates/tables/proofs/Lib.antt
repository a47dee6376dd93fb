-- The laws of this crate, each file above what it cites.
pub mod Order
pub mod Parts
pub mod RowRange
pub mod Found
pub mod Days
pub mod Pairs
pub mod Values
pub mod Starts
pub mod Right
pub mod Callers
