pub mod ElsewhereLemmas
mod Faulting
mod RunLemmas
mod ServeLemmas
