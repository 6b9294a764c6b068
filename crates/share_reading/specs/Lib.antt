-- what public contracts rest on
pub mod Header
pub mod Opening
pub mod Refusal
pub mod OpeningReads
pub mod Blame
pub mod Reading
pub mod Whole
pub mod Reads
pub mod Verdict
pub mod Judged
pub mod JudgingSize
