pub mod Told
pub mod Chosen
pub mod MadeAnew
mod StandingLemmas
