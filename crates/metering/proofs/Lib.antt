-- Laws of readings: for the proofs of the functions, and for callers.
pub mod HourLaws
pub mod LineLaws
pub mod RowLaws
pub mod ChargeLaws
pub mod Rereading
pub mod Settled
