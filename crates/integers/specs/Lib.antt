-- What the functions of this crate are stated by.
pub mod Sums
pub mod Division
