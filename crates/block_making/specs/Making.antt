-- How the blocks of a share are made again.
use Rattle.std.specs.Prelude.{◌≡◌, ◌≢◌, ◌⊎◌, ℕ, ◌+◌, ◌-◌, ◌*◌, ◌<◌, ◌≤◌, List, [], ◌∷◌, ◌++◌}
use Rattle.std.specs.Prelude.{Option, Some, None, drop, length, slice_index_or, take}
use Rattle.aes_ctr.specs.CounterMode.{xored_from}
use Rattle.tagged_hash.specs.TaggedHash.{tagged_hash}
use Rattle.tagged_hash.specs.declared.tag.Tag.TheVariants.{Block}
use Rattle.zfec_code.specs.Shares.{Parameters}
use Rattle.share_layout.specs.Geometry.{Geometry, IsGeometry, block_size}
use Rattle.share_layout.specs.Geometry.{share_data_size}
use Rattle.share_layout.specs.Layout.{header_size, layout_of}
use Rattle.share_layout.specs.Pieces.{block_length, segment_at, segment_length, segments_of}
use Rattle.share_verify.specs.Pieces.{block_hashes, joined}
use Rattle.file_encoding.specs.Encoding.{block_of, blocks_of, padded_segment}
use Rattle.sources.specs.Source.{IsRead}
use Rattle.block_making.specs.Slots.{Keeps, KeptBlock, Slots}

-- ---- parts of a text that is seen from an offset on

-- the bytes of a text from an offset on
abbrev pub IsPieceOf : List ℕ → ℕ → List ℕ → Type 0
IsPieceOf text offset bytes = bytes ≡ take (length bytes) (drop offset text)

-- the bytes of a text from an offset on, with those of a part that stands at an offset over them
abbrev pub put_at : ℕ → List ℕ → ℕ → List ℕ → List ℕ
put_at begin part offset out =
    take (begin - offset) out ++ take (length out - (begin - offset)) (drop (offset - begin) part)
    ++ drop (begin + length part - offset) out

-- ---- blocks with the hashes that are kept

-- the hash that is kept of a share's block of a segment, by the leaves of all shares
abbrev pub leaf_at : List (List (List ℕ)) → ℕ → ℕ → List ℕ
leaf_at leaves share number = slice_index_or (slice_index_or leaves share []) number []

-- these bytes have the length and the hash of the share's block of this segment
pub record IsBlock (g : Geometry) (leaves : List (List (List ℕ))) (share number : ℕ)
    (bytes : List ℕ) : Type 0 where
  pub long : length bytes ≡ block_length g number
  pub hash : tagged_hash Block bytes ≡ leaf_at leaves share number

-- what is kept in the slots are such blocks
pub record AreSlots (g : Geometry) (leaves : List (List (List ℕ))) (slots : Slots) : Type 0 where
  pub size : slots.block_size ≡ block_size g
  pub verified : (block : KeptBlock) → Keeps slots.blocks block
      → IsBlock g leaves block.share block.number block.bytes

-- the ciphertext of bytes of a source from an offset on: under a key, or the bytes themselves where
-- the source holds ciphertext
abbrev pub ciphertext_from : Option (List ℕ) → ℕ → List ℕ → List ℕ
ciphertext_from (Some key) offset bytes = xored_from key offset bytes
ciphertext_from None offset bytes = bytes

-- what the blocks of a share are made by: the key that encrypts their file, if it is to be
-- encrypted, and the hashes that the blocks of all shares have to have
pub record Making : Type 0 where
  pub geometry : Geometry
  pub key : Option (List ℕ)
  pub leaves : List (List (List ℕ))
  pub share : ℕ

-- the value of what is made by these
abbrev pub making_with : Geometry → Option (List ℕ) → List (List (List ℕ)) → ℕ → Making
making_with geometry key leaves share =
    record { geometry = geometry; key = key; leaves = leaves; share = share }

-- the hashes of the share's blocks
abbrev pub hashes_of : Making → List (List ℕ)
hashes_of m = slice_index_or m.leaves m.share []

-- the same of another share
abbrev pub for_share : Making → ℕ → Making
for_share m share = record m { share = share }

-- the share's block of this segment of a file has the hash that is kept
pub record HasBlock (m : Making) (number : ℕ) (file : List ℕ) : Type 0 where
  pub long : length file ≡ m.geometry.size
  pub hash : tagged_hash Block
      (block_of m.geometry.needed m.share
      (segment_at m.geometry number (ciphertext_from m.key 0 file)))
      ≡ slice_index_or (hashes_of m) number []

-- all blocks of the share have the hashes that are kept
pub record HasBlocks (m : Making) (file : List ℕ) : Type 0 where
  pub long : length file ≡ m.geometry.size
  pub hashes : hashes_of m ≡ block_hashes
      (blocks_of m.geometry.needed m.share (segments_of m.geometry (ciphertext_from m.key 0 file)))

-- so have those of each share
abbrev pub HaveBlocks : Making → List ℕ → Type 0
HaveBlocks m file = (share : ℕ) → share < m.geometry.total → HasBlocks (for_share m share) file

-- it makes the blocks of some file by this code
pub record IsMaking (m : Making) (code : Parameters) : Type 0 where
  pub geometry : IsGeometry m.geometry
  pub file : List ℕ
  pub blocks : HaveBlocks m file
  pub count : length m.leaves ≡ m.geometry.total
  pub needed : code.k ≡ m.geometry.needed
  pub total : code.n ≡ m.geometry.total
  pub number : m.share < m.geometry.total

-- a share's block of this segment has not the hash that is kept
pub record HasOtherBlock (m : Making) (number : ℕ) (segment : List ℕ) : Type 0 where
  pub share : ℕ
  pub low : share < m.geometry.total
  pub other : tagged_hash Block (block_of m.geometry.needed share segment)
      ≢ leaf_at m.leaves share number

-- ---- segments that are read

-- the segment of this number was read, each byte of it once and no other
pub record WasRead {S : Type 0} (gives : S → ℕ → List ℕ → S → Type 0) (old : S) (g : Geometry)
    (number : ℕ) (new : S) : Type 0 where
  pub segment : List ℕ
  pub long : length segment ≡ segment_length g number
  pub read : IsRead gives old (number * g.segment_size) segment new

-- so it was, and its ciphertext stands here, padded
pub record IsSegmentRead {S : Type 0} (gives : S → ℕ → List ℕ → S → Type 0) (old : S) (m : Making)
    (number : ℕ) (padded : List ℕ) (new : S) : Type 0 where
  pub was : WasRead gives old m.geometry number new
  pub padded_is : padded ≡ padded_segment m.geometry.needed
      (ciphertext_from m.key (number * m.geometry.segment_size) was.segment)

-- The share's block of this segment was written over a piece of the share. It was made of the
-- segment, which was read for it, or nothing was read.
pub record IsBlockPut {S : Type 0} (gives : S → ℕ → List ℕ → S → Type 0) (old : S) (m : Making)
    (number offset : ℕ) (before after : List ℕ) (new : S) : Type 0 where
  pub block : List ℕ
  pub is : IsBlock m.geometry m.leaves m.share number block
  pub put : after ≡ put_at
      (header_size (layout_of m.geometry) + number * block_size m.geometry) block offset before
  pub read : (new ≡ old) ⊎ WasRead gives old m.geometry number new

-- The segments of these numbers were read, one after another, and nothing else. The numbers go up,
-- from `first` at least to below `end`: no segment was read twice.
abbrev pub WereAllRead : {S : Type 0} → (S → ℕ → List ℕ → S → Type 0) → S → Geometry → ℕ → List ℕ
    → ℕ → S → Type 0
WereAllRead gives old g first [] end new = (first ≤ end) × (new ≡ old)
WereAllRead gives old g first (number ∷ numbers) end new =
    (first ≤ number) × ((mid : _) × WasRead gives old g number mid
    × WereAllRead gives mid g (number + 1) numbers end new)

-- ---- the blocks that a piece meets

-- Segments of the source were read, in ascending order: each at most once, each byte of it once,
-- and no other byte. The piece of so many bytes from an offset on meets the block of each of them.
pub record WereRead {S : Type 0} (gives : S → ℕ → List ℕ → S → Type 0) (old : S) (g : Geometry)
    (offset count : ℕ) (new : S) : Type 0 where
  pub first : ℕ
  pub end : ℕ
  pub numbers : List ℕ
  pub read : WereAllRead gives old g first numbers end new
  pub met : (number : ℕ) → first ≤ number → number < end
      → (offset < header_size (layout_of g) + (number + 1) * block_size g)
      × (header_size (layout_of g) + number * block_size g < offset + count)

-- Blocks with the hashes that are kept stand where the piece meets them, and other bytes of the
-- share stay.
pub record ArePut (m : Making) (offset : ℕ) (before after : List ℕ) : Type 0 where
  pub blocks : List (List ℕ)
  pub hashes : block_hashes blocks ≡ hashes_of m
  pub size : length (joined blocks) ≡ share_data_size m.geometry
  pub put : (front text behind : List ℕ) → length front ≡ header_size (layout_of m.geometry)
      → length text ≡ share_data_size m.geometry → IsPieceOf (front ++ text ++ behind) offset before
      → IsPieceOf (front ++ joined blocks ++ behind) offset after
