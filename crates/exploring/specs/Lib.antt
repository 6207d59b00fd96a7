-- What the contracts of this crate speak of.
pub mod Circles
pub mod Table
pub mod Exploring
