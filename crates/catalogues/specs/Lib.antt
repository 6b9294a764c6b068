-- what public contracts rest on
pub mod Names
pub mod Lines
pub mod Heads
pub mod Catalogues
pub mod Laws
pub mod Below
pub mod Patterns
pub mod CatalogueError
pub mod Kept
pub mod Known
pub mod Pieces
-- words of private clauses
pub mod HeadParts
pub mod PartsLeft
pub mod Rows
pub mod Unwritten
