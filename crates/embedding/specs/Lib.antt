-- What the numbers that the C functions return mean.
pub mod Codes
pub mod Rows
