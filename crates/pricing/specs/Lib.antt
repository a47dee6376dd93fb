-- What the functions of this crate are stated by.
pub mod Elements
pub mod Prices
pub mod Charges
