pub mod NumberLemmas
pub mod PartLemmas
pub mod RunLemmas
pub mod EndLemmas
pub mod OfferLemmas
pub mod TreeLemmas
