-- The laws of rings.
pub mod RingLaws
