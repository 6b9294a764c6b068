-- what public contracts rest on
pub mod Scrubs
pub mod Held
pub mod States
pub mod StatusLines
pub mod StatusJson
pub mod Status
-- the words of private clauses
pub mod Scrubbing
