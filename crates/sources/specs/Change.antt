-- A source whose bytes are not what they were.
use Rattle.std.specs.Prelude.{◌≡◌, ◌≢◌, ◌⊎◌, ℕ, ◌+◌, ◌<◌, List, [], length, take, drop, Contains}
use Rattle.std.specs.Prelude.{slice_get, Some}
use Rattle.sources.specs.Source.{Read, Reads}

-- a read brought this byte for this position
pub record Brings (read : Read) (position byte : ℕ) : Type 0 where
  pub offset : ℕ
  pub position_is : position ≡ read.0 + offset
  pub byte_is : slice_get read.1 offset ≡ Some byte

-- two of these reads brought different bytes for one offset
pub record HaveDiffered (reads : List Read) : Type 0 where
  pub one : Read
  pub other : Read
  pub offset : ℕ
  pub byte : ℕ
  pub other_byte : ℕ
  pub among : Contains reads one
  pub among_too : Contains reads other
  pub brings : Brings one offset byte
  pub brings_too : Brings other offset other_byte
  pub differ : byte ≢ other_byte

-- one of these reads found no more bytes before so many
pub record HasEnded (reads : List Read) (size : ℕ) : Type 0 where
  pub read : Read
  pub among : Contains reads read
  pub none : read.1 ≡ []
  pub early : read.0 < size

-- so it was found from one state to another
pub record HasEndedEarly {S : Type 0} (gives : S → ℕ → List ℕ → S → Type 0) (old : S) (size : ℕ)
    (new : S) : Type 0 where
  pub reads : List Read
  pub run : Reads gives old reads new
  pub ended : HasEnded reads size

-- one of these reads brought other bytes than the file has there
pub record HasOther (reads : List Read) (file : List ℕ) : Type 0 where
  pub read : Read
  pub among : Contains reads read
  pub other : read.1 ≢ take (length read.1) (drop read.0 file)

-- two reads of one offset differed, or the source ended before its size
pub record HasChanged {S : Type 0} (gives : S → ℕ → List ℕ → S → Type 0) (old : S) (size : ℕ)
    (new : S) : Type 0 where
  pub reads : List Read
  pub run : Reads gives old reads new
  pub changed : HaveDiffered reads ⊎ HasEnded reads size

-- a read brought other bytes than this file has there, or the source ended before the file's end
pub record DiffersFromFile {S : Type 0} (gives : S → ℕ → List ℕ → S → Type 0) (old : S)
    (file : List ℕ) (new : S) : Type 0 where
  pub reads : List Read
  pub run : Reads gives old reads new
  pub changed : HasOther reads file ⊎ HasEnded reads (length file)
