pub mod OneGoal
pub mod OneLength
