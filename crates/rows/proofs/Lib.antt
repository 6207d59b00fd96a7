-- The laws of decoding and of reading.
pub mod Places
pub mod Instructions
pub mod Terms
pub mod ExpressionLaws
pub mod Sequences
pub mod Passes
pub mod Walks
pub mod Series
pub mod PointLaws
pub mod ProcessLaws
pub mod ProgramLaws
pub mod Lookups
pub mod Talks
