-- What the contracts of this crate speak of.
pub mod Holding
pub mod Scheduling
pub mod Turning
pub mod Meeting
