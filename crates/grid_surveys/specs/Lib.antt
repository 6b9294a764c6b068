-- what public contracts rest on
pub mod Looks
pub mod Verdicts
pub mod Verifies
-- words of private clauses
pub mod LookEnds
pub mod VerifyEnds
