-- what public contracts rest on
pub mod StartError
pub mod Tasks
pub mod Jobs
pub mod Given
pub mod Moves
pub mod UploadPieces
pub mod Asked
pub mod Follow
pub mod Carried
pub mod Status
pub mod Repairs
