-- What a reader wants of an extension block, and the faults behind those of its form.
use Rattle.std.specs.Prelude.{◌≡◌, ℕ, ◌<◌, ◌≤◌, List, [], length, decimal, Some, None, ◌⊎◌}
use Rattle.ueb.specs.declared.key.Key.{Key}
use Rattle.ueb.specs.declared.key.Key.TheVariants.{CrypttextHash, CrypttextRootHash}
use Rattle.ueb.specs.declared.key.Key.TheVariants.{SegmentSize, ShareRootHash}
use Rattle.ueb.specs.declared.block.Expect.{Expect}
use Rattle.ueb.specs.Limits.{max_length}
use Rattle.ueb.specs.declared.error.UebError.{UebError}
use Rattle.ueb.specs.declared.error.UebError.TheVariants.{OutOfMemory, Malformed, KeyOrder}
use Rattle.ueb.specs.declared.error.UebError.TheVariants.{MissingKey, Disagrees, TooLong}
use Rattle.ueb.specs.Key.{key_name, IsFirst}
use Rattle.ueb.specs.Fields.{Field, AreFields, value_of, IsMalformed, IsOutOfOrder}
use Rattle.ueb.specs.Shape.{Contents, IsSegmentSize}
use Rattle.ueb.specs.Block.{value_text}

-- the block is one of a file with these numbers
pub record Agrees (expect : Expect) (c : Contents) : Type 0 where
  pub needed_shares : c.needed_shares ≡ expect.needed
  pub total_shares : c.total_shares ≡ expect.total
  pub size : c.size ≡ expect.size

-- a known key is not there
abbrev pub IsMissing : List Field → Key → Type 0
IsMissing fields key = value_of (key_name key) fields ≡ None

-- what follows from the file and the size of its segments: all but the hashes
abbrev pub numbers : Expect → ℕ → Contents
numbers expect segment_size = record {
  needed_shares = expect.needed;
  total_shares = expect.total;
  size = expect.size;
  segment_size = segment_size;
  crypttext_hash = [];
  crypttext_root_hash = [];
  share_root_hash = [];
}

-- A hash has 32 bytes. Every other value is the one text that the numbers give.
abbrev pub Suits : Contents → Key → List ℕ → Type 0
Suits c CrypttextHash value = length value ≡ 32
Suits c CrypttextRootHash value = length value ≡ 32
Suits c ShareRootHash value = length value ≡ 32
Suits c key value = value ≡ value_text c key

-- the value of a key is as it has to be
pub record HasSuiting (c : Contents) (fields : List Field) (key : Key) : Type 0 where
  pub value : List ℕ
  pub there : value_of (key_name key) fields ≡ Some value
  pub suits : Suits c key value

-- the value of a key is not as it has to be
abbrev pub Differs : Contents → List Field → Key → Type 0
Differs c fields key =
    (value : List ℕ) → value_of (key_name key) fields ≡ Some value → Suits c key value → ⊥

-- the value of `segment_size` is this number, and such a file's segments may have this size
pub record HasSegmentSize (expect : Expect) (fields : List Field) (segment_size : ℕ) : Type 0 where
  pub value : value_of (key_name SegmentSize) fields ≡ Some (decimal segment_size)
  pub suits : IsSegmentSize expect.needed expect.size segment_size

-- The first key that disagrees with the file: `segment_size` comes before all others, they in their
-- order.
abbrev pub IsFirstToDiffer : Expect → List Field → Key → Type 0
IsFirstToDiffer expect fields key =
    ((key ≡ SegmentSize) × ((segment_size : ℕ) → HasSegmentSize expect fields segment_size → ⊥))
    ⊎ ((segment_size : ℕ) × HasSegmentSize expect fields segment_size
    × IsFirst (Differs (numbers expect segment_size) fields) key)

-- the bytes are fields in their order, and this is the first known key that is missing
pub record LacksKey (bytes : List ℕ) (key : Key) : Type 0 where
  pub fields : List Field
  pub are_fields : AreFields bytes fields
  pub first : IsFirst (IsMissing fields) key

-- the bytes are fields in their order, with all known keys, and this is the first one that
-- disagrees with the file
pub record DisagreesAt (expect : Expect) (bytes : List ℕ) (key : Key) : Type 0 where
  pub fields : List Field
  pub are_fields : AreFields bytes fields
  pub complete : (known : Key) → ¬ IsMissing fields known
  pub first : IsFirstToDiffer expect fields key

-- why bytes are refused: the first fault, in the documented order
abbrev pub IsRefused : List ℕ → Expect → UebError → Type 0
IsRefused bytes expect OutOfMemory = ⊥
IsRefused bytes expect TooLong = max_length < length bytes
IsRefused bytes expect Malformed = (length bytes ≤ max_length) × IsMalformed bytes
IsRefused bytes expect KeyOrder = (length bytes ≤ max_length) × IsOutOfOrder bytes
IsRefused bytes expect (MissingKey key) = (length bytes ≤ max_length) × LacksKey bytes key
IsRefused bytes expect (Disagrees key) = (length bytes ≤ max_length) × DisagreesAt expect bytes key
