-- what public contracts rest on
pub mod Names
pub mod Statuses
pub mod Since
pub mod Puts
pub mod Gets
-- words of private clauses
pub mod Ends
pub mod GetEnds
