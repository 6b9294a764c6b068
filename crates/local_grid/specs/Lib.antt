-- What public contracts rest on.
pub mod Outside
pub mod OutsideTurns
pub mod Local
pub mod Refusals
pub mod Nodes
pub mod Turns
pub mod Ends
pub mod Carrying
pub mod Links
-- Words of private clauses.
pub mod Framed
pub mod Waiting
