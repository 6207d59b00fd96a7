-- The laws of starting and becoming.
pub mod BeginningLaws
pub mod HeadLaws
pub mod EndLaws
pub mod StartTurns
pub mod Settling
