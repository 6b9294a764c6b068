-- What is held of each share while the segments of its file go by.
use Rattle.std.specs.Prelude.{◌≡◌, ℕ, ◌+◌, ◌-◌, ◌*◌, ◌<◌, ◌≤◌, List, ◌++◌, length, map, drop}
use Rattle.std.specs.Prelude.{replicate, slice_get, Some}
use Rattle.std.specs.Int.{div_ceil}
use Rattle.tagged_hash.specs.TaggedHash.{tagged_hash}
use Rattle.tagged_hash.specs.declared.tag.Tag.TheVariants.{Block}
use Rattle.zfec_code.specs.Shares.{Parameters}
use Rattle.share_layout.specs.Geometry.{Geometry}
use Rattle.share_layout.specs.Pieces.{pieces}
use Rattle.share_gathering.specs.Gathered.{Gathered}
use Rattle.share_gathering.specs.Groups.{IsGroup, gathered_group}
use Rattle.tagged_hash.specs.Wholes.{AreGiven, IsGivenAt}
use Rattle.tagged_hash.specs.declared.wholes.WholeHashers.{WholeHashers}
use Rattle.share_gathering.specs.declared.groups.Group.{Group}
use Rattle.share_gathering.specs.declared.shares.ShareSoFar.{ShareSoFar}

-- each of these has become what it is now, by its number
pub record HaveBecome {X : Type 0} (By : ℕ → X → X → Type 0) (old new : List X) : Type 0 where
  pub count : length new ≡ length old
  pub each : (i : ℕ) (before after : X) → slice_get old i ≡ Some before
      → slice_get new i ≡ Some after → By i before after

-- a share has the leaves of the next blocks: so many of `size` bytes, the last perhaps shorter
abbrev pub HasBlocksMore : ℕ → ℕ → (ℕ → List ℕ) → ℕ → ShareSoFar → ShareSoFar → Type 0
HasBlocksMore count size rows i old new =
    new.leaves.items ≡ old.leaves.items ++ map (tagged_hash Block) (pieces count size (rows i))

-- each of these shares has the leaves of its next blocks, by its number
abbrev pub HaveBlocksMore : ℕ → ℕ → (ℕ → List ℕ) → List ShareSoFar → List ShareSoFar → Type 0
HaveBlocksMore count size rows old new = HaveBecome (HasBlocksMore count size rows) old new

-- the hashers at position k of so many shares were given a piece more for each
abbrev pub HavePieceMore : ℕ → (ℕ → List ℕ) → ℕ → WholeHashers → WholeHashers → Type 0
HavePieceMore total piece k old new = (j : ℕ) (given : List ℕ) → j < 7 → 7 * k + j < total
    → IsGivenAt old j given → IsGivenAt new j (given ++ piece (7 * k + j))

-- the hashers of so many shares were given their next bytes
abbrev pub HaveWholesMore : ℕ → (ℕ → List ℕ) → List WholeHashers → List WholeHashers → Type 0
HaveWholesMore total rows old new = HaveBecome (HavePieceMore total rows) old new

-- what was gathered of each share alone, by number
abbrev pub HoldShares : Gathered → List ShareSoFar → Type 0
HoldShares s shares = (i : ℕ) (share : ShareSoFar) → slice_get shares i ≡ Some share
    → share.leaves.items ≡ s.block_leaves i

-- what a group of segments is gathered with: the segments, which stand one after another with zeros
-- behind the last, the code of their file, room for the blocks of eight shares, and all shares with
-- their hashers
pub record CanGather (g : Geometry) (code : Parameters) (some : Group) (segments lanes : List ℕ)
    (all : List ShareSoFar) (hashers : List WholeHashers) : Type 0 where
  pub group : IsGroup g some
  pub needed : code.k ≡ g.needed
  pub total : code.n ≡ g.total
  pub segments_long : length segments ≡ 8 * g.segment_size
  pub padding : drop some.len segments ≡ replicate (8 * g.segment_size - some.len) 0
  pub room : 8 * some.row ≤ length lanes
  pub shares : length all ≡ g.total
  pub wholes : length hashers ≡ div_ceil g.total 7

-- shares that held what was gathered hold what is gathered with the ciphertext of a group more
abbrev pub HoldSharesMore : Geometry → Group → List ℕ → List ShareSoFar → List ShareSoFar → Type 0
HoldSharesMore g group text old new = (s : Gathered) → HoldShares s old
    → HoldShares (gathered_group g group text s) new

-- so it is of what the hashers of whole shares were given
abbrev pub AreGivenMore : Geometry → Group → List ℕ → List WholeHashers → List WholeHashers → Type 0
AreGivenMore g group text old new = (s : Gathered) → AreGiven g.total s.written old
    → AreGiven g.total (gathered_group g group text s).written new
