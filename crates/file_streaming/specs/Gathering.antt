-- What the second pass over a source holds.
use Rattle.std.specs.Prelude.{◌≡◌, ℕ, List, ◌++◌, length}
use Rattle.std.specs.Int.{div_ceil}
use Rattle.aes_ctr.specs.CounterMode.{xored_from}
use Rattle.tagged_hash.specs.TaggedHasher.{Holds, HoldsFile}
use Rattle.tagged_hash.specs.declared.tag.Tag.TheVariants.{Ciphertext}
use Rattle.share_layout.specs.Geometry.{Geometry}
use Rattle.share_layout.specs.Pieces.{segments_of}
use Rattle.sources.specs.Source.{IsPass, IsRead}
use Rattle.share_gathering.specs.Gathered.{Gathered, gathered, gathered_none}
use Rattle.share_gathering.specs.Groups.{gathered_group}
use Rattle.share_gathering.specs.Shares.{HoldShares}
use Rattle.tagged_hash.specs.Wholes.{AreGiven}
use Rattle.file_streaming.specs.declared.gathering.Gathering.{Gathering}
use Rattle.share_gathering.specs.declared.groups.Group.{Group}

-- what was gathered of a file and its ciphertext
pub record HasGathered (g : Geometry) (s : Gathered) (secret file : List ℕ) (x : Gathering)
    : Type 0 where
  pub key : HoldsFile x.key g.needed g.total g.segment_size secret file
  pub ciphertext : Holds x.ciphertext Ciphertext s.ciphertext
  pub leaves : x.leaves.items ≡ s.leaves
  pub count : length x.shares.items ≡ g.total
  pub shares : HoldShares s x.shares.items
  pub groups : length x.wholes.items ≡ div_ceil g.total 7
  pub wholes : AreGiven g.total s.written x.wholes.items

-- these segments were read and gathered, encrypted at their offset
pub record IsGroupGathered {S : Type 0} (gives : S → ℕ → List ℕ → S → Type 0) (old : S)
    (g : Geometry) (key : List ℕ) (group : Group) (before after : Gathering) (new : S)
    : Type 0 where
  pub text : List ℕ
  pub long : length text ≡ group.len
  pub read : IsRead gives old group.offset text new
  pub has : (s : Gathered) (secret file : List ℕ) → HasGathered g s secret file before
      → HasGathered g (gathered_group g group (xored_from key group.offset text) s)
      secret (file ++ text) after

-- the source was read once, and what is held was gathered of its segments, each encrypted at its
-- offset under this key
pub record IsGatheredFrom {S : Type 0} (gives : S → ℕ → List ℕ → S → Type 0) (old : S)
    (g : Geometry) (key secret : List ℕ) (x : Gathering) (new : S) : Type 0 where
  pub file : List ℕ
  pub pass : IsPass gives g.size old file new
  pub has : HasGathered g (gathered g key 0 (segments_of g file) (gathered_none g)) secret file x
