-- The lemma of the table, and laws of months.
pub mod Entries
pub mod MonthLaws
