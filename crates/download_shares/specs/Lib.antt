-- what public contracts rest on
pub mod Left
pub mod HoldingState
pub mod Numbers
pub mod Table
pub mod Right
pub mod HoldingMoves
-- words of private clauses
pub mod Choice
pub mod BeginningState
pub mod Reads
pub mod Known
pub mod Opening
pub mod BeginningMoves
pub mod Causes
