-- The reads of the beginning of a share.
use Rattle.std.specs.Prelude.{◌≡◌, ◌⊎◌, ℕ, ◌+◌, ◌≤◌, ◌==◌, ◌&&◌, Bool, true, false, List, [], ◌∷◌}
use Rattle.std.specs.Prelude.{Option, Some, None, if◌then◌else◌, length, slice_get}
use Rattle.std.specs.List.{flat_map}
use Rattle.share_layout.specs.Geometry.{Geometry}
use Rattle.share_layout.specs.Layout.{header_size, layout_of, offsets_of}
use Rattle.share_reading.specs.Opening.{next_length, next_offset}
use Rattle.share_reading.specs.OpeningReads.{Brought, IsLedToBy}
use Rattle.share_reading.specs.declared.opening.Opening.{Opening}
use Rattle.share_reading.specs.declared.opening.Opening.TheVariants.{Start, Second, Header, Block}
use Rattle.wire.specs.declared.message.Body.TheVariants.{Data}
use Rattle.request_record.specs.Record.{is_outstanding}
use Rattle.request_record.specs.declared.requests.Asked.{Asked}
use Rattle.request_record.specs.declared.requests.Asked.TheVariants.{Reading}
use Rattle.request_record.specs.declared.requests.Outcome.{Outcome}
use Rattle.request_record.specs.declared.requests.Outcome.TheVariants.{Answered}
use Rattle.request_record.specs.declared.requests.Request.{Request}
use Rattle.download_shares.specs.declared.holding.Holding.{Holding}

-- ---- where they lie

-- some bytes are read before an opening, or by its next read: they lie in the header, or from the
-- extension block's offset on
abbrev pub IsReadUpTo : Opening → ℕ → ℕ → Type 0
IsReadUpTo Start offset len = offset + len ≤ 36
IsReadUpTo (Second start) offset len = offset + len ≤ 68
IsReadUpTo (Header h) offset len = (offset + len ≤ header_size h.offsets.layout)
    ⊎ ((h.offsets.extension_block ≤ offset)
    × (offset + len ≤ next_offset (Header h) + next_length (Header h)))
IsReadUpTo (Block b) offset len = (offset + len ≤ header_size b.header.offsets.layout)
    ⊎ ((b.header.offsets.extension_block ≤ offset)
    × (offset + len ≤ next_offset (Block b) + next_length (Block b)))

abbrev pub IsBeginning : Option Opening → ℕ → ℕ → Type 0
IsBeginning None offset len = ⊥
IsBeginning (Some opening) offset len = IsReadUpTo opening offset len

-- Some bytes lie beside all that is read of a share by a plan: in the header, or behind the share
-- hashes.
abbrev pub IsBeside : Geometry → ℕ → ℕ → Type 0
IsBeside g offset len = (offset + len ≤ header_size (layout_of g))
    ⊎ ((offsets_of g).extension_block ≤ offset)

-- ---- what the record has of them

-- the request at this position asks for these bytes of the holding's share
pub record IsReadAt (entries : List Request) (h : Holding) (position offset len : ℕ) : Type 0 where
  pub request : Request
  pub there : slice_get entries position ≡ Some request
  pub of_server : request.server ≡ h.server
  pub asked : request.asked ≡ Reading h.share offset len

-- it waits for its answer
pub record IsOutAt (entries : List Request) (position : ℕ) : Type 0 where
  pub request : Request
  pub there : slice_get entries position ≡ Some request
  pub waits : is_outstanding request.outcome ≡ true

-- it was answered with these bytes
pub record IsAnsweredBy (entries : List Request) (position : ℕ) (bytes : List ℕ) : Type 0 where
  pub request : Request
  pub there : slice_get entries position ≡ Some request
  pub answer : request.outcome ≡ Answered (Data bytes)

-- does it ask for bytes of this share?
abbrev pub reads_share : ℕ → Asked → Bool
reads_share share (Reading n offset len) = n == share
reads_share share asked = false

abbrev pub brought_in : Asked → Outcome → List Brought
brought_in (Reading n offset len) (Answered (Data bytes)) = (offset, bytes) ∷ []
brought_in asked outcome = []

abbrev pub brought_by : ℕ → ℕ → Request → List Brought
brought_by server share r =
    if (r.server == server) && reads_share share r.asked then brought_in r.asked r.outcome else []

-- what all reads of a share at a server brought
abbrev pub brought_of : List Request → ℕ → ℕ → List Brought
brought_of entries server share = flat_map (brought_by server share) entries

-- Bytes of a share lie in its beginning, as far as what was read of it led: in the header, or where
-- that names the extension block.
pub record IsInBeginning (entries : List Request) (server share offset len : ℕ) : Type 0 where
  pub opening : Opening
  pub led : IsLedToBy (brought_of entries server share) opening
  pub lies : IsReadUpTo opening offset len

-- each read of a share at a server that was asked for more is of such bytes
abbrev pub AddsReads : (ℕ → ℕ → ℕ → ℕ → Type 0) → List Request → List Request → Type 0
AddsReads may old new = (position : ℕ) (r : Request) (share offset len : ℕ)
    → slice_get new position ≡ Some r → length old ≤ position → r.asked ≡ Reading share offset len
    → may r.server share offset len
