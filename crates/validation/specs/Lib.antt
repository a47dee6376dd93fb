-- What the answers of this crate say, and what its functions need.
pub mod Decided
