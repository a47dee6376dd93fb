-- Laws of runs: for the proofs of the functions, and the law that ties a run to demand 3.
pub mod Tails
pub mod Turns
pub mod Reached
