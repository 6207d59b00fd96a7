-- The proofs of what the calls promise.
pub mod Judges
pub mod Answering
pub mod RunLaws
pub mod LentLaws
