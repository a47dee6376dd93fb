-- Laws that the proofs of this crate cite.
pub mod Measures
pub mod Answers
