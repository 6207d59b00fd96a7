-- What is promised of a printed text.
pub mod EndsLine
