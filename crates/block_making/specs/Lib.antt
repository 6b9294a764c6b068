-- what public contracts rest on
pub mod Slots
pub mod PieceError
pub mod Making
