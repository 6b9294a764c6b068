-- what public contracts rest on
pub mod CommandLine
pub mod Asked
-- words of private clauses
pub mod Builds
