mod AskedLemmas
mod ListLemmas
pub mod GetLemmas
