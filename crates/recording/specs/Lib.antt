-- What the functions of this crate ask, and what they leave.
pub mod Opened
pub mod Recorded
