-- What the contracts of this crate speak of.
pub mod Lines
pub mod Slots
pub mod Rings
