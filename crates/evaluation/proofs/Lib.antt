-- The laws of evaluation.
pub mod ValueLaws
pub mod HandingLaws
pub mod GivingLaws
