-- Shares that may be read, and what was read of them.
use Rattle.std.specs.Prelude.{◌≡◌, ◌⊎◌, ℕ, ◌<◌, Bool, true, false, List, [], ◌∷◌, Contains, Option}
use Rattle.std.specs.Prelude.{None, Some, length, map, slice_get, slice_index, slice_index_or}
use Rattle.std.specs.Prelude.{slice_set, take}
use Rattle.tagged_hash.specs.TaggedHash.{tagged_hash}
use Rattle.tagged_hash.specs.declared.tag.Tag.TheVariants.{Block}
use Rattle.ueb.specs.Shape.{Contents}
use Rattle.share_source.specs.Leaves.{AreLeavesOf, AreNoLeaves}
use Rattle.share_source.specs.Reads.{Fails, Gives, WasRead}
use Rattle.share_source.specs.declared.place.Place.{Place}

-- Shares of a file that may be read, by their positions: what the file's extension block says, the
-- numbers of the shares, the leaves that are held of each (none, or those of its block tree), which
-- of them were struck out, and the bytes of all.
pub record Candidates (B : Type 0) : Type 0 where
  pub ueb : Contents
  pub numbers : List ℕ
  pub held : List (List (List ℕ))
  pub struck : List Bool
  pub bytes : B

-- the numbers of the shares at positions
abbrev pub picked_numbers : List ℕ → List ℕ → List ℕ
picked_numbers numbers positions = map (slice_index numbers) positions

-- the leaves that are held of the share at a position
abbrev pub leaves_held : List (List (List ℕ)) → ℕ → List (List ℕ)
leaves_held held position = slice_index_or held position []

-- the share at a position is struck out, and its leaves are let go
abbrev pub struck_out : {B : Type 0} → Candidates B → ℕ → B → Candidates B
struck_out c position bytes = record c {
  held = slice_set c.held position [];
  struck = slice_set c.struck position true;
  bytes = bytes;
}

-- ---- what was read

-- what came is the block that leaves tell for a segment
abbrev pub HasLeaf : List (List ℕ) → ℕ → Option (List ℕ) → Type 0
HasLeaf leaves segment (Some block) =
    tagged_hash Block block ≡ slice_index_or leaves segment []
HasLeaf leaves segment None = ⊥

-- the bytes of the share at a position brought this, or a read of them failed
abbrev pub Brought : {B : Type 0} → Gives B → Fails B → Place → ℕ → B → Option (List ℕ) → B → Type 0
Brought gives fails place position old (Some block) new =
    (length block ≡ place.size) × gives old position place.begin block new
Brought gives fails place position old None new = fails old position place.begin place.size new

-- leaves of the share at a position are held, and are those of its tree
abbrev pub HoldsOwnLeaves : {B : Type 0} → Candidates B → ℕ → Type 0
HoldsOwnLeaves c position =
    AreLeavesOf c.ueb (slice_index c.numbers position) (leaves_held c.held position)

-- A block was read of a share that was not struck out, by the leaves that are held of it. It is
-- struck out now just where what came is not the block that they tell.
pub record IsBlockRead {B : Type 0} (gives : Gives B) (fails : Fails B) (place : Place)
    (old : Candidates B) (position : ℕ) (came : Option (List ℕ)) (new : Candidates B)
    : Type 0 where
  pub left : slice_get old.struck position ≡ Some false
  pub holds : HoldsOwnLeaves old position
  pub brought : Brought gives fails place position old.bytes came new.bytes
  pub judged : (HasLeaf (leaves_held old.held position) place.segment came
      × (new ≡ record old { bytes = new.bytes }))
      ⊎ ((¬ HasLeaf (leaves_held old.held position) place.segment came)
      × (new ≡ struck_out old position new.bytes))

-- what came are the leaves of a share's tree, which are held now; or there are none
abbrev pub LeavesCame : {B : Type 0} → Gives B → Fails B → Candidates B → ℕ
    → Option (List (List ℕ)) → Candidates B → Type 0
LeavesCame gives fails old position (Some leaves) new = WasRead gives fails old.bytes new.bytes
    × AreLeavesOf old.ueb (slice_index old.numbers position) leaves
    × (new ≡ record old { held = slice_set old.held position leaves; bytes = new.bytes })
LeavesCame gives fails old position None new =
    AreNoLeaves gives fails old.ueb position (slice_index old.numbers position) old.bytes new.bytes
    × (new ≡ struck_out old position new.bytes)

-- The leaves were read of a share that was not struck out, and of which none were held. It is
-- struck out now just where there are none.
pub record AreLeavesRead {B : Type 0} (gives : Gives B) (fails : Fails B) (old : Candidates B)
    (position : ℕ) (came : Option (List (List ℕ))) (new : Candidates B) : Type 0 where
  pub left : slice_get old.struck position ≡ Some false
  pub none : leaves_held old.held position ≡ []
  pub brought : LeavesCame gives fails old position came new

-- what was read: a block of a share, or its leaves, and what came of it; or leaves of a share,
-- until memory was refused
pub data ShareRead : Type 0 where
  block : (position : ℕ) (came : Option (List ℕ)) → ShareRead
  leaves : (position : ℕ) (came : Option (List (List ℕ))) → ShareRead
  refused : ShareRead

-- this was read
abbrev pub IsShareRead : {B : Type 0} → Gives B → Fails B → Place → Candidates B → ShareRead
    → Candidates B → Type 0
IsShareRead gives fails place old (ShareRead.block position came) new =
    IsBlockRead gives fails place old position came new
IsShareRead gives fails place old (ShareRead.leaves position came) new =
    AreLeavesRead gives fails old position came new
IsShareRead gives fails place old ShareRead.refused new =
    WasRead gives fails old.bytes new.bytes × (new ≡ record old { bytes = new.bytes })

-- these were read, one after another
abbrev pub AreSharesRead : {B : Type 0} → Gives B → Fails B → Place → Candidates B
    → List ShareRead → Candidates B → Type 0
AreSharesRead gives fails place old [] new = new ≡ old
AreSharesRead gives fails place old (read ∷ reads) new =
    (mid : Candidates _) × IsShareRead gives fails place old read mid
    × AreSharesRead gives fails place mid reads new

-- Each of these blocks, one of a share of each of these numbers, has the hash that the leaves of
-- its share tell for the segment; and these lead to the root over all shares of the file.
pub record AreBlocksTold (u : Contents) (segment : ℕ) (numbers : List ℕ)
    (trees : List (List (List ℕ))) (blocks : List (List ℕ)) : Type 0 where
  pub of_file : (i : ℕ) → i < length numbers
      → AreLeavesOf u (slice_index numbers i) (slice_index_or trees i [])
  pub hashes : (i : ℕ) → i < length numbers
      → HasLeaf (slice_index_or trees i []) segment (Some (slice_index_or blocks i []))

-- ---- which shares are read

-- fewer different numbers than are needed are left among the shares that are not struck out
pub record HaveTooFew (needed : ℕ) (shares : List ℕ) (struck : List Bool) : Type 0 where
  pub numbers : List ℕ
  pub few : length numbers < needed
  pub all : (position : ℕ) → slice_get struck position ≡ Some false
      → Contains numbers (slice_index shares position)

-- Each of these shares is the first with a number that none of those before it has: all shares that
-- stand before it have the number of one of them.
abbrev pub AreFirst : List ℕ → List ℕ → Type 0
AreFirst numbers positions = (i position earlier : ℕ) → slice_get positions i ≡ Some position
    → earlier < position
    → Contains (picked_numbers numbers (take i positions)) (slice_index numbers earlier)

-- the shares that were read are read on, each in its place, but for those that were struck out
abbrev pub AreReadOn : List ℕ → List Bool → List ℕ → Type 0
AreReadOn old struck new = (i position : ℕ) → slice_get old i ≡ Some position
    → slice_get struck position ≡ Some false → slice_get new i ≡ Some position
