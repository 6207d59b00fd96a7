-- What the contracts of this crate speak of.
pub mod Moving
pub mod Pairing
pub mod Searching
pub mod Looking
