-- What the functions of this crate are stated by.
pub mod Links
pub mod Payers
pub mod Readings
