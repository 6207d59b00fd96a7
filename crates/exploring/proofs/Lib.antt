-- The laws of exploring.
pub mod CircleLaws
pub mod TableLaws
pub mod KeptLaws
pub mod ExploreLaws
