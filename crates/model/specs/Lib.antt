-- What a program is, what its processes do, which programs keep to their conversations, how a program is
-- written as words, and what is true of every run.
pub mod Program
pub mod Steps
pub mod Keeps
pub mod Picture
pub mod Waiting
pub mod Rows
pub mod Same
pub mod Examples
pub mod Theorems
