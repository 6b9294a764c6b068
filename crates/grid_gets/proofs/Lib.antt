pub mod RunLemmas
pub mod SpanLemmas
pub mod TriedLemmas
pub mod WordLemmas
pub mod GotLemmas
pub mod FileLemmas
pub mod PartLemmas
