pub mod StepLaws
pub mod RecordLaws
pub mod QueueLaws
pub mod AskingLaws
pub mod KeptLaws
pub mod EntryLaws
pub mod EntrySteps
pub mod FollowLaws
