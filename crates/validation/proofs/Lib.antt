-- Laws that the proofs of this crate share, and laws for callers.
pub mod Arms
pub mod Next
pub mod Bodies
pub mod Stops
pub mod Whole
