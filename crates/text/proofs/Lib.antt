-- Facts on the reading of a text.
pub mod Bytes
pub mod Written
