mod AsideNames
pub mod Going
mod KnownLemmas
mod OneStep
mod Polite
mod ReadingLemmas
