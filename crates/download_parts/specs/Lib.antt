-- what public contracts rest on
pub mod TreeFault
pub mod Range
pub mod Level
pub mod Plan
pub mod PlanLaws
pub mod Offers
pub mod Trees
pub mod Refusal
pub mod TreeLaws
