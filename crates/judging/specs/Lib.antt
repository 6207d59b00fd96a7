-- What the contracts of the judge cite.
pub mod Standing
pub mod Judging
pub mod Following
pub mod Program
