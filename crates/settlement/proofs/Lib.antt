-- The laws of this crate, each file above what it cites.
mod Applying
mod ReadingApplied
mod Stepping
