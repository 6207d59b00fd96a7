-- What the contracts of this crate speak of.
pub mod Shown
pub mod Orders
pub mod Running
pub mod Ending
pub mod Setting
pub mod Outs
pub mod Whole
