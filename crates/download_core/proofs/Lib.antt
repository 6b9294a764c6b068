pub mod Fields
pub mod Listed
pub mod Begun
pub mod Parts
pub mod Asked
pub mod Ended
pub mod Fallen
pub mod Relisted
pub mod Started
pub mod Follows
pub mod Following
pub mod Awaited
pub mod Busy
pub mod Heard
pub mod Blamed
pub mod Made
pub mod Ticked
pub mod Compared
pub mod Ends
pub mod Gone
pub mod Sent
pub mod Causes
mod Results
mod Records
mod FairLemmas
mod Going
pub mod HashedLemmas
pub mod TestedLemmas
pub mod RightBlocks
mod ReadLemmas
mod FewLemmas
mod Sending
mod EndLemmas
mod TakenLemmas
mod TickLemmas
mod BeginLemmas
mod EvidenceLemmas
mod NewsLemmas
mod WholeLemmas
mod ProvingLemmas
mod SectionLemmas
