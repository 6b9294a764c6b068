-- what public contracts rest on
pub mod Field
pub mod CodeError
pub mod Shares
pub mod Rows
pub mod ShareValue
pub mod Laws
-- words of private clauses
pub mod Nibbles
pub mod Tables
