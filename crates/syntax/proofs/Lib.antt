-- Facts on the writing of a tree.
pub mod Actions
pub mod Added
pub mod Fits
pub mod Flat
pub mod Halves
pub mod Mirror
pub mod Programs
pub mod Sizes
