-- The run of the program: what a reader must believe.
pub mod Stages
pub mod Parts
pub mod Texts
pub mod Holding
