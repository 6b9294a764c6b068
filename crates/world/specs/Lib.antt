-- what public contracts rest on
pub mod Refusals
pub mod State
pub mod Step
pub mod Admitted
pub mod Taking
pub mod Repaired
pub mod Headline
pub mod Started
pub mod Repairs
pub mod Later
pub mod Enough
pub mod Binding
-- what holds of every world, and carries the headline
pub mod History
pub mod Consistent
-- words of private clauses
pub mod Parts
