-- The laws of running.
pub mod ActLaws
pub mod QueueLaws
pub mod ShownLaws
pub mod RunLaws
pub mod EndingLaws
pub mod SettingLaws
pub mod WholeLaws
