-- What was asked of the readers of a file.
use Rattle.std.specs.Prelude.{◌≡◌, ◌⊎◌, ◌↔◌, ℕ, ◌<◌, ◌≤◌, List, All, AllPairs, Contains, Some}
use Rattle.download_parts.specs.PlanLaws.{AreApart}
use Rattle.download_parts.specs.Plan.{IsPlanned, length_of, max_read, offset_of}
use Rattle.download_parts.specs.declared.part.Part.{Part}
use Rattle.download_supply.specs.Asking.{IsAsked, IsWanted, IsWantedCiphertext}
use Rattle.download_supply.specs.Supply.{first_of}
use Rattle.download_supply.specs.declared.wanted.Wanted.{Wanted}
use Rattle.download_segments.specs.Handout.{next_segment}
use Rattle.download_file.specs.State.{FileState, IsLive, IsReader, ReaderState, giver}

-- a reader was asked for so many bytes from this offset on
pub record HasAsked (f : FileState) (reader offset len : ℕ) : Type 0 where
  pub r : ReaderState
  pub there : IsReader f reader r
  pub part : Part
  pub asked : IsAsked r.supply part
  pub offset_is : offset ≡ offset_of r.supply.geometry (first_of r.supply part) r.supply.end part
  pub long : len ≡ length_of r.supply.geometry (first_of r.supply part) r.supply.end part

-- the same was asked of each reader
abbrev pub AsksNoMore : FileState → FileState → Type 0
AsksNoMore old new = (reader offset len : ℕ)
    → HasAsked new reader offset len ↔ HasAsked old reader offset len

-- one of these parts is so many bytes from this offset on
pub record IsOneOf (wanted : List Wanted) (offset len : ℕ) : Type 0 where
  pub one : Wanted
  pub among : Contains wanted one
  pub offset_is : offset ≡ one.read.offset
  pub long : len ≡ one.read.length

-- it is a part of the plan for the segments from some one on of those that are wanted
pub record IsPlannedRead (f : FileState) (offset len : ℕ) : Type 0 where
  pub from : ℕ
  pub begins : f.first ≤ from
  pub before : from < f.end
  pub planned : IsPlanned f.handout.geometry from f.end offset len

-- A reader is asked for these parts, and nothing else is asked. No byte is asked of it twice.
pub record AsksParts (old : FileState) (reader : ℕ) (wanted : List Wanted) (new : FileState)
    : Type 0 where
  pub planned : All (λ w. IsPlannedRead old w.read.offset w.read.length) wanted
  pub few : All (λ w. (0 < w.read.length) × (w.read.length ≤ max_read)) wanted
  pub apart : AllPairs (λ v w.
      AreApart v.read.offset v.read.length w.read.offset w.read.length) wanted
  pub fresh : (offset len : ℕ) → HasAsked old reader offset len
      → All (λ w. AreApart offset len w.read.offset w.read.length) wanted
  pub asked : (other offset len : ℕ) → HasAsked new other offset len
      ↔ (HasAsked old other offset len ⊎ ((other ≡ reader) × IsOneOf wanted offset len))

-- all that is wanted of the reader for the next segment is asked, of the ciphertext tree too where
-- it is the giver
pub record IsAskedUp (f : FileState) (reader : ℕ) : Type 0 where
  pub own : (r : ReaderState) (number : ℕ) (part : Part) → IsReader f reader r
      → next_segment f.handout ≡ Some number → IsWanted r.supply number part
      → IsAsked r.supply part
  pub ciphertext : (r : ReaderState) (number : ℕ) (part : Part) → giver f ≡ Some reader
      → IsReader f reader r → next_segment f.handout ≡ Some number
      → IsWantedCiphertext r.supply number part → IsAsked r.supply part

-- so it is of each reader that is read
abbrev pub AreAskedUp : FileState → Type 0
AreAskedUp f = (reader : ℕ) → IsLive f reader → IsAskedUp f reader
