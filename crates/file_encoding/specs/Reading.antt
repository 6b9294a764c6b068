-- Which shares a reader takes, and the file that it makes of them.
use Rattle.std.specs.Prelude.{◌≡◌, ℕ, ◌<◌, ◌≤◌, ◌⊎◌, List, [], ◌∷◌, length, map, All}
use Rattle.std.specs.Prelude.{slice_index, slice_index_or}
use Rattle.tagged_hash.specs.TaggedHash.{tagged_hash}
use Rattle.tagged_hash.specs.declared.tag.Tag.TheVariants.{CiphertextSegment}
use Rattle.cap_text.specs.Cap.{ReadCapValue, VerifyCapValue, verify_cap_of}
use Rattle.merkle.specs.Tree.{tree_root}
use Rattle.ueb.specs.Shape.{Contents}
use Rattle.share_layout.specs.Geometry.{Geometry, segment_count}
use Rattle.share_layout.specs.Share.{Sections}
use Rattle.share_layout.specs.Pieces.{block_at, segment_at}
use Rattle.proved_parts.specs.Decoding.{DecodesBlocks}
use Rattle.share_verify.specs.CapBlock.{IsUebFor, geometry_by}
use Rattle.share_verify.specs.TreeSection.{HoldsTree}
use Rattle.share_verify.specs.Verify.{IsSound, IsSoundShare}
use Rattle.proved_parts.specs.FileOf.{IsFileOf}

-- a share that a reader takes: where it stands among the strings, its number, and what it says
pub record TakenShare : Type 0 where
  pub position : ℕ
  pub number : ℕ
  pub contents : Contents
  pub sections : Sections

-- Strings come with the numbers of the shares that they are said to be. The one at this position
-- comes with this number, and passes every check as that share.
abbrev pub IsSoundAt : VerifyCapValue → List ℕ → List (List ℕ) → ℕ → ℕ → Type 0
IsSoundAt cap numbers strings number position =
    (slice_index numbers position ≡ number) × IsSoundShare cap number
    (slice_index_or strings position [])

-- it is the first such one
pub record IsFirstSound (cap : VerifyCapValue) (numbers : List ℕ) (strings : List (List ℕ))
    (number position : ℕ) : Type 0 where
  pub inside : position < length numbers
  pub passes : IsSoundAt cap numbers strings number position
  pub first : (other : ℕ) → other < position → ¬ IsSoundAt cap numbers strings number other

-- that one is taken, and says this
pub record IsTaken (cap : VerifyCapValue) (numbers : List ℕ) (strings : List (List ℕ))
    (t : TakenShare) : Type 0 where
  pub first : IsFirstSound cap numbers strings t.number t.position
  pub sound : IsSound cap t.number (slice_index_or strings t.position []) t.contents t.sections

-- no string with this number passes
abbrev pub NoneSound : VerifyCapValue → List ℕ → List (List ℕ) → ℕ → Type 0
NoneSound cap numbers strings number = (position : ℕ) → position < length numbers
    → ¬ IsSoundAt cap numbers strings number position

-- the numbers of the shares that are taken
abbrev pub numbers_of : List TakenShare → List ℕ
numbers_of taken = map (λ (t : TakenShare). t.number) taken

-- and where they stand
abbrev pub offsets_of : List TakenShare → List ℕ
offsets_of taken = map (λ (t : TakenShare). t.position) taken

abbrev pub IsAmong : ℕ → List ℕ → Type 0
IsAmong number numbers = (position : ℕ) × (position < length numbers) ×
    (slice_index numbers position ≡ number)

abbrev pub AreRising : List ℕ → Type 0
AreRising numbers = (low high : ℕ) → low < high → high < length numbers
    → slice_index numbers low < slice_index numbers high

-- Of the numbers below one, these are the lowest that pass, and of each the first string: at most
-- as many as are needed. Another number passes only where there are so many, and then it is above
-- them.
pub record AreLowest (cap : VerifyCapValue) (numbers : List ℕ) (strings : List (List ℕ))
    (below : ℕ) (taken : List TakenShare) : Type 0 where
  pub each : All (IsTaken cap numbers strings) taken
  pub low : All (λ t. t.number < below) taken
  pub rising : AreRising (numbers_of taken)
  pub few : length taken ≤ cap.needed
  pub others : (number : ℕ) → number < below
      → IsAmong number (numbers_of taken) ⊎
      (NoneSound cap numbers strings number ⊎
      ((length taken ≡ cap.needed) × All (λ t. t.number < number) taken))

-- the reader takes these
pub record Takes (cap : VerifyCapValue) (numbers : List ℕ) (strings : List (List ℕ))
    (taken : List TakenShare) : Type 0 where
  pub lowest : AreLowest cap numbers strings cap.total taken
  pub enough : length taken ≡ cap.needed

-- fewer numbers pass than are needed
pub record LacksShares (cap : VerifyCapValue) (numbers : List ℕ)
    (strings : List (List ℕ)) : Type 0 where
  pub taken : List TakenShare
  pub lowest : AreLowest cap numbers strings cap.total taken
  pub few : length taken < cap.needed

-- where the blocks of the shares that are taken stand, each share's joined
abbrev pub blocks_in : List TakenShare → List (List ℕ)
blocks_in taken = map (λ (t : TakenShare). t.sections.blocks) taken

-- the blocks of a segment among those of the shares with these numbers decode to it
abbrev pub Decodes : Geometry → List ℕ → List (List ℕ) → ℕ → List ℕ → Type 0
Decodes g numbers blocks number segment =
    DecodesBlocks g numbers (map (block_at g number) blocks) number segment

-- All segments decode so, and each has the hash of its leaf.
pub record IsDecoded (g : Geometry) (numbers : List ℕ) (blocks leaves : List (List ℕ))
    (ciphertext : List ℕ) : Type 0 where
  pub size : length ciphertext ≡ g.size
  pub segments : (number : ℕ) → number < segment_count g → Decodes g numbers blocks number
      (segment_at g number ciphertext)
  pub hashes : (number : ℕ) → number < segment_count g
      → tagged_hash CiphertextSegment (segment_at g number ciphertext)
      ≡ slice_index_or leaves number []

-- a segment decodes to one that has not the hash of its leaf
pub record HasWrongSegment (g : Geometry) (numbers : List ℕ)
    (blocks leaves : List (List ℕ)) : Type 0 where
  pub number : ℕ
  pub there : number < segment_count g
  pub segment : List ℕ
  pub decodes : Decodes g numbers blocks number segment
  pub wrong : ¬ (tagged_hash CiphertextSegment segment ≡ slice_index_or leaves number [])

-- the shares have one extension block, with these contents
abbrev pub Agree : List TakenShare → List ℕ → Contents → Type 0
Agree taken extension_block u = All
    (λ (t : TakenShare). (t.sections.extension_block ≡ extension_block) × (t.contents ≡ u)) taken

-- one of the shares has another extension block than the lowest
pub record Disagree (taken : List TakenShare) : Type 0 where
  pub lowest : TakenShare
  pub rest : List TakenShare
  pub is : taken ≡ lowest ∷ rest
  pub position : ℕ
  pub there : position < length taken
  pub differs : ¬ ((slice_index_or taken position lowest).sections.extension_block
      ≡ lowest.sections.extension_block)

-- the leaves of the ciphertext tree in the share that was taken first, one for each segment
pub record AreLeaves (taken : List TakenShare) (leaves : List (List ℕ)) : Type 0 where
  pub lowest : TakenShare
  pub rest : List TakenShare
  pub is : taken ≡ lowest ∷ rest
  pub count : length leaves ≡ segment_count (geometry_by lowest.contents)
  pub holds : HoldsTree lowest.sections.ciphertext_tree leaves

-- the ciphertext that the shares that are taken give
pub record GivesCiphertext (cap : VerifyCapValue) (numbers : List ℕ) (strings : List (List ℕ))
    (ciphertext : List ℕ) : Type 0 where
  pub taken : List TakenShare
  pub takes : Takes cap numbers strings taken
  pub extension_block : List ℕ
  pub u : Contents
  pub ueb : IsUebFor cap extension_block u
  pub agree : Agree taken extension_block u
  pub leaves : List (List ℕ)
  pub are_leaves : AreLeaves taken leaves
  pub count : length leaves ≡ segment_count (geometry_by u)
  pub root : tree_root leaves ≡ u.crypttext_root_hash
  pub decoded : IsDecoded (geometry_by u) (numbers_of taken) (blocks_in taken) leaves ciphertext

-- the file that a reader makes of the shares that it takes
pub record IsReadFrom (cap : ReadCapValue) (numbers : List ℕ) (strings : List (List ℕ))
    (file : List ℕ) : Type 0 where
  pub taken : List TakenShare
  pub takes : Takes (verify_cap_of cap) numbers strings taken
  pub extension_block : List ℕ
  pub u : Contents
  pub agree : Agree taken extension_block u
  pub leaves : List (List ℕ)
  pub are_leaves : AreLeaves taken leaves
  pub ciphertext : List ℕ
  pub decoded : IsDecoded (geometry_by u) (numbers_of taken) (blocks_in taken) leaves ciphertext
  pub is_file : IsFileOf cap extension_block u ciphertext file

-- why the shares that a reader takes do not give the file
pub data AreInconsistent (cap : VerifyCapValue) (numbers : List ℕ)
    (strings : List (List ℕ)) : Type 0 where
  -- two of them differ in their extension blocks
  disagree : (taken : List TakenShare) → Takes cap numbers strings taken → Disagree taken
      → AreInconsistent cap numbers strings
  -- they agree, and a segment that they decode to is not the one of its leaf
  wrong_segment : (taken : List TakenShare) (extension_block : List ℕ) (u : Contents)
      (leaves : List (List ℕ)) → Takes cap numbers strings taken
      → Agree taken extension_block u → AreLeaves taken leaves
      → HasWrongSegment (geometry_by u) (numbers_of taken) (blocks_in taken) leaves
      → AreInconsistent cap numbers strings
