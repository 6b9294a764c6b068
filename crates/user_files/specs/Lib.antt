pub mod Input
pub mod Paths
pub mod Pieces
