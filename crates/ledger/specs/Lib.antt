-- What the functions of this crate are stated by.
pub mod Amounts
pub mod Bounds
pub mod Added
pub mod LineNumbers
pub mod RecordNumbers
pub mod Moved
