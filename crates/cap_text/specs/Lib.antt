-- what public contracts rest on
pub mod Base32
pub mod Cap
pub mod CapText
pub mod CapError
pub use Rattle.tagged_hash.specs.TaggedHash
-- words of private clauses
pub mod LitBuffer
