-- Laws of the lines that the program prints.
pub mod LineLaws
pub mod Loading
