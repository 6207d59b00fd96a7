-- The laws of waiting.
pub mod WaitLaws
