-- what public contracts rest on
pub mod State
pub mod Answers
pub mod Right
pub mod Asked
pub mod Taking
pub mod Making
pub mod Changes
pub mod Hashed
pub mod Tested
pub mod Whole
pub mod Laws
-- words of private clauses
pub mod Steps
pub mod Rows
pub mod Parts
