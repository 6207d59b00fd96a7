-- The laws of looking for steps.
pub mod ReadyLaws
pub mod MovingLaws
pub mod AdvanceLaws
pub mod PairLaws
pub mod SearchLaws
pub mod LookLaws
