-- The Gregorian rule of months.
pub mod Gregorian
