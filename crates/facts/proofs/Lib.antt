-- Laws of this crate.
pub mod LinkLaws
pub mod ReadingLaws
