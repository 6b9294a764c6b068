-- what public contracts rest on
pub mod Cursors
pub mod Supply
pub mod Upper
pub mod Asking
pub mod Taking
pub mod Blocks
pub mod Laws
-- words of private clauses
pub mod Batch
