-- what public contracts rest on
pub mod ReadingState
pub mod Reading
pub mod ReadingPrompt
pub mod ReadingSteps
pub mod ReadingCauses
pub mod Laws
pub mod State
pub mod Given
pub mod Reads
pub mod Causes
pub mod Evidence
pub mod Ends
pub mod Hashed
pub mod Tested
pub mod Moves
pub mod Prompt
pub mod Sending
pub mod Calls
pub mod Right
pub mod Sections
pub mod Whole
pub mod Proving
pub mod Refusals
-- words of private clauses
pub mod Steps
