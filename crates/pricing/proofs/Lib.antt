-- Laws of prices, elements and charges: for the proofs of the functions, and for callers.
pub mod Sizes
pub mod Elements
pub mod Prices
pub mod Charges
pub mod Fronts
