-- What the calls promise.
pub mod Says
pub mod Once
pub mod Runs
