-- What the contracts of this crate speak of.
pub mod Heads
pub mod Beginning
pub mod Begins
