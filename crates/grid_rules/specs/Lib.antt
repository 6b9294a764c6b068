-- what public contracts rest on
pub mod Becoming
pub mod KeptNumbers
pub mod CapLines
pub mod Ending
pub mod Range
pub mod ReportLines
pub mod ReportJson
pub mod ScrubLines
pub mod Turns
pub mod Ways
