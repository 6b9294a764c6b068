-- What public contracts rest on.
pub mod Names
pub mod Table
pub mod Folder
pub mod Stored
pub mod Relied
pub mod Listed
