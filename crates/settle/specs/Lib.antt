-- A session of the program: what a reader must believe.
pub mod Sessions
