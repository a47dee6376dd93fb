-- Laws of lines with changes, of what a round sends, and of the list of records.
pub mod AmountLaws
pub mod Bounds
pub mod Fronts
pub mod MovedLines
pub mod Own
pub mod LineNumbers
pub mod RecordNumbers
pub mod RoundLaws
