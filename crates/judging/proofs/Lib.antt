-- The laws of judging.
pub mod Conversing
pub mod VariableLaws
pub mod HandingLaws
pub mod ProgramTests
pub mod CallLaws
pub mod WalkLaws
