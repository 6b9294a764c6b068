-- What a pass over a source gives.
use Rattle.std.specs.Prelude.{◌≡◌, ℕ, List}
use Rattle.tagged_hash.specs.ConvergentKey.{convergent_key_of}
use Rattle.sources.specs.Source.{IsPass}

-- it is the key of the bytes that one pass brought
pub record IsKeyRead {S : Type 0} (gives : S → ℕ → List ℕ → S → Type 0) (size : ℕ) (old : S)
    (k n segment_size : ℕ) (secret key : List ℕ) (new : S) : Type 0 where
  pub file : List ℕ
  pub pass : IsPass gives size old file new
  pub key_is : key ≡ convergent_key_of k n segment_size secret file
