-- What is promised of a text that is read or printed, and where a byte stands in a text.
pub mod Reached
pub mod RowsOf
