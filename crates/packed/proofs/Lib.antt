-- Laws by which the functions meet their contracts.
pub mod Steps
