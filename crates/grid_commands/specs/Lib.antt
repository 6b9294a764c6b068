-- what public contracts rest on
pub mod Texts
pub mod Inits
pub mod Elsewhere
pub mod Exit
pub mod CapFiles
pub mod Commands
pub mod Grid
-- the words of private clauses
pub mod Faults
pub mod Serving
