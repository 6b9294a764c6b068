-- What two passes over a source leave.
use Rattle.std.specs.Prelude.{◌≡◌, ◌≢◌, ◌⊎◌, ℕ, List, length}
use Rattle.std.specs.Int.{div_ceil}
use Rattle.tagged_hash.specs.ConvergentKey.{convergent_key_of}
use Rattle.tagged_hash.specs.TaggedHasher.{Holds}
use Rattle.tagged_hash.specs.declared.tag.Tag.TheVariants.{Ciphertext}
use Rattle.share_layout.specs.Geometry.{Geometry}
use Rattle.share_layout.specs.Pieces.{segments_of}
use Rattle.sources.specs.Change.{HasEndedEarly}
use Rattle.sources.specs.Source.{IsPass}
use Rattle.share_gathering.specs.Gathered.{Gathered, gathered, gathered_none}
use Rattle.share_gathering.specs.Buffers.{AreBuffers}
use Rattle.share_gathering.specs.Shares.{HoldShares}
use Rattle.tagged_hash.specs.Wholes.{AreGiven}
use Rattle.file_streaming.specs.declared.passes.Passes.{Passes}

-- what is gathered of a whole file under a key
abbrev pub gathered_of : Geometry → List ℕ → List ℕ → Gathered
gathered_of g key file = gathered g key 0 (segments_of g file) (gathered_none g)

-- the key with a geometry and a secret of these bytes
abbrev pub key_by : Geometry → List ℕ → List ℕ → List ℕ
key_by g secret file = convergent_key_of g.needed g.total g.segment_size secret file

-- it was gathered of this file, by an encoder and buffers of its geometry and key
pub record IsPassOf (g : Geometry) (file : List ℕ) (p : Passes) : Type 0 where
  pub long : length file ≡ g.size
  pub needed : p.encoder.code.k ≡ g.needed
  pub total : p.encoder.code.n ≡ g.total
  pub cipher : p.encoder.cipher ≡ p.key
  pub buffers : AreBuffers g p.buffers
  pub ciphertext : Holds p.ciphertext Ciphertext (gathered_of g p.key file).ciphertext
  pub leaves : p.leaves.items ≡ (gathered_of g p.key file).leaves
  pub count : length p.shares.items ≡ g.total
  pub shares : HoldShares (gathered_of g p.key file) p.shares.items
  pub groups : length p.wholes.items ≡ div_ceil g.total 7
  pub wholes : AreGiven g.total (gathered_of g p.key file).written p.wholes.items

-- the source was read once more, and brought a file with the key that it had before
pub record IsSecondPass {S : Type 0} (gives : S → ℕ → List ℕ → S → Type 0) (old : S) (g : Geometry)
    (secret : List ℕ) (p : Passes) (new : S) : Type 0 where
  pub file : List ℕ
  pub pass : IsPass gives g.size old file new
  pub key : p.key ≡ key_by g secret file
  pub of_file : IsPassOf g file p

-- the source was read twice, and brought files of one key
pub record AreTwoPasses {S : Type 0} (gives : S → ℕ → List ℕ → S → Type 0) (old : S) (g : Geometry)
    (secret : List ℕ) (p : Passes) (new : S) : Type 0 where
  pub first : List ℕ
  pub mid : S
  pub before : IsPass gives g.size old first mid
  pub one_key : p.key ≡ key_by g secret first
  pub after : IsSecondPass gives mid g secret p new

-- the source was read once, and brought a file of another key
pub record HasOtherKey {S : Type 0} (gives : S → ℕ → List ℕ → S → Type 0) (old : S) (g : Geometry)
    (secret key : List ℕ) (new : S) : Type 0 where
  pub file : List ℕ
  pub pass : IsPass gives g.size old file new
  pub other : key_by g secret file ≢ key

-- why a second pass was not one: it ended early, or had another key
abbrev pub IsOtherPass : {S : Type 0} → (S → ℕ → List ℕ → S → Type 0) → S → Geometry → List ℕ
    → List ℕ → S → Type 0
IsOtherPass gives old g secret key new =
    HasEndedEarly gives old g.size new ⊎ HasOtherKey gives old g secret key new
