-- What the functions of this crate cite: lengths, a book and a message as numbers, and what each function promises.
pub mod Lengths
pub mod Numbers
pub mod Promises
