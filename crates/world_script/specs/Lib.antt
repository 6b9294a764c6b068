pub mod Script
pub mod Refused
pub mod ScriptError
pub mod WorldError
-- what public contracts rest on
pub mod Events
pub mod Playing
pub mod Agreement
pub mod Telling
pub mod Liars
-- words of private clauses
pub mod Plans
pub mod Agreeing
