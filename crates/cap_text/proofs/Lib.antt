pub mod Bits
pub mod Groups
pub mod Reading
pub mod Parts
pub mod FieldLemmas
pub mod OneText
pub mod OneAnswer
pub mod LitLemmas
