-- Laws of the signed numbers, of orders and of finite sums: for the proofs of the functions, and for callers.
pub mod Integers
pub mod Linear
pub mod Sums
pub mod Order
pub mod Division
pub mod Nearest
