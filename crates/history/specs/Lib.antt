-- The run of a list of messages, what a function that takes the list promises, and what that is worth from an opened book.
pub mod Runs
pub mod FromOpening
