-- what public contracts rest on
pub mod Pieces
pub mod State
pub mod Handout
pub mod Decoding
pub mod NoCodeWord
pub mod Laws
pub mod Agreement
pub mod GroupState
pub mod GroupMaking
