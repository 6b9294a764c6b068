-- what public contracts rest on
pub mod Reads
pub mod Reports
