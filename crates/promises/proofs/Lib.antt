-- The promises: theorems about whatever the eight contracts allow.
pub mod Refusals
pub mod Cases
pub mod Unique
pub mod Same
pub mod Planning
pub mod Answering
pub mod Scoring
pub mod Editing
pub mod Copying
pub mod Demands
pub mod Inputs
pub mod RefuteAnswers
pub mod RefutePlans
pub mod RefuteEdits
pub mod RefuteScores
pub mod RefuteWalks
pub mod RefuteScans
