-- The file and the printed lines of document 01, "File and program": what a reader must believe.
pub mod Bytes
pub mod Field
pub mod Reader
pub mod Element
pub mod Decimal
pub mod Lines
pub mod Encode
pub mod Program
pub mod Contents
pub mod Printed
pub mod Cases
