mod Durable
mod OwnNames
mod OwnFiles
mod Kept
mod Held
mod Beside
mod Moments
mod Read
mod Changes
mod Replays
mod Alone
mod Named
mod Unused
pub mod Polite
mod Sparing
mod Moved
mod Writing
