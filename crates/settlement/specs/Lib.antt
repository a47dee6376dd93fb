-- What the functions of this crate ask, and what they promise.
pub mod Replies
