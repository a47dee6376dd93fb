-- Laws of this crate, each file above what it cites.
pub mod Asks
pub mod Lacks
pub mod PairSearch
pub mod Answered
pub mod Owned
