-- The laws of holding and of scheduling.
pub mod Moves
pub mod Found
pub mod MeetingLaws
pub mod Queue
pub mod Potential
pub mod HoldingLaws
pub mod CommunicationLaws
pub mod CommunicationTurns
pub mod AloneLaws
pub mod AloneTurns
