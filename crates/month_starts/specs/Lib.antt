-- What the program prints.
pub mod MonthStarts
