-- Words laid one behind the other.
pub mod Laying
