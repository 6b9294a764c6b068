-- what public contracts rest on
pub mod RemakeError
pub mod Remade
pub mod PrepareError
pub mod Prepared
pub mod Piece
-- words of private clauses
pub mod Remaking
pub mod KeyReading
pub mod Gathering
pub mod Finishing
pub mod Passes
