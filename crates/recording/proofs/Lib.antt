-- The laws of this crate, each file above what it cites.
pub mod ClearLaws
pub mod Counts
pub mod Leaves
pub mod Passed
