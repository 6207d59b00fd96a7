-- How a line of decimal words is read, and what is left of it when its words are lent.
pub mod Lending
pub mod Reading
