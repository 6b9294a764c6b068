-- what public contracts rest on
pub mod State
pub mod Shares
pub mod Moves
pub mod Sending
pub mod Calls
pub mod Report
pub mod Good
pub mod Right
-- what else was hashed, for the layers above
pub mod Tested
-- words of private clauses
pub mod Pieces
pub mod Wanted
pub mod Offers
pub mod Book
pub mod Hearing
pub mod Found
