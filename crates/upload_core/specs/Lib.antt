-- what public contracts rest on
pub mod State
pub mod PieceFault
pub mod Pieces
pub mod Acknowledged
pub mod Transfers
pub mod Rounds
pub mod Right
pub mod Moves
pub mod Sending
pub mod Ready
pub mod Calls
-- words of private clauses
pub mod Trails
pub mod Course
