-- what public contracts rest on
pub mod Tree
pub mod Path
pub mod Inputs
pub mod Nodes
pub mod Partial
pub mod Known
pub mod OneTree
pub mod Offers
pub mod OfferError
-- words of private clauses
pub mod Taking
