-- Where the bytes lie that a download reads of a share.
use Rattle.std.specs.Prelude.{◌≡◌, ◌≢◌, ◌⊎◌, ℕ, ◌+◌, ◌-◌, ◌/◌, ◌<◌, ◌≤◌, Option, Some}
use Rattle.std.specs.Prelude.{None, slice_get}
use Rattle.share_layout.specs.Geometry.{Geometry}
use Rattle.share_layout.specs.Layout.{header_size, layout_of, offsets_of}
use Rattle.wire.specs.declared.message.Body.TheVariants.{Read}
use Rattle.wire.specs.declared.message.Message.{Message}
use Rattle.wire.specs.declared.message.ShareId.{ShareId}
use Rattle.request_record.specs.declared.requests.Asked.TheVariants.{Reading}
use Rattle.request_record.specs.declared.requests.Request.{Request}
use Rattle.request_record.specs.Record.{RequestsState}
use Rattle.download_shares.specs.Reads.{AddsReads, IsInBeginning}
use Rattle.download_parts.specs.PlanLaws.{IsInBlock, LiesIn}
use Rattle.download_core.specs.Moves.{GoesOn}
use Rattle.download_core.specs.Right.{IsRight}
use Rattle.download_core.specs.State.{DownloadState, Found}

-- the segment of the range's first byte, that of its last, or one between
pub record IsTouched (g : Geometry) (from to number : ℕ) : Type 0 where
  pub begins : from / g.segment_size ≤ number
  pub ends : number ≤ (to - 1) / g.segment_size

-- each of these bytes lies in the block of such a segment
abbrev pub LieInBlocks : Geometry → ℕ → ℕ → ℕ → ℕ → Type 0
LieInBlocks g from to offset len = (position : ℕ) → offset ≤ position → position < offset + len
    → (number : ℕ) × IsTouched g from to number × IsInBlock g number position

-- These bytes lie in one section: in blocks of segments that the range touches, in the ciphertext
-- tree, in the block tree, or in the share hashes.
pub data LieInSection (g : Geometry) (from to offset len : ℕ) : Type 0 where
  blocks : LiesIn (header_size (layout_of g)) (offsets_of g).unused offset len
      → LieInBlocks g from to offset len → LieInSection g from to offset len
  ciphertext_tree : LiesIn (offsets_of g).ciphertext_tree (offsets_of g).block_tree offset len
      → LieInSection g from to offset len
  block_tree : LiesIn (offsets_of g).block_tree (offsets_of g).share_hashes offset len
      → LieInSection g from to offset len
  share_hashes : LiesIn (offsets_of g).share_hashes (offsets_of g).extension_block offset len
      → LieInSection g from to offset len

-- so they do by the extension block that is accepted; before there is none
abbrev pub LieByFound : Option Found → ℕ → ℕ → ℕ → ℕ → Type 0
LieByFound None from to offset len = ⊥
LieByFound (Some f) from to offset len =
    LieInSection f.file.handout.geometry from to offset len

-- A share is read only in its header and where that names the extension block, and, once an
-- extension block is accepted, within one section for the range.
abbrev pub MayBeRead : DownloadState → ℕ → ℕ → ℕ → ℕ → Type 0
MayBeRead d server share offset len =
    IsInBeginning d.requests.entries server share offset len
    ⊎ LieByFound d.found d.from d.to offset len

-- so it is of a Read that is sent
abbrev pub ReadsInSections : DownloadState → ℕ × Message → Type 0
ReadsInSections d sent = (id : ShareId) (offset len : ℕ) → sent.1.body ≡ Read id offset len
    → MayBeRead d sent.0 id.share offset len

-- a law: so it is of each read that a download asks for, sent or not
abbrev pub ReadsStayInSections : Type 0
ReadsStayInSections = (d : DownloadState) (position : ℕ) (r : Request) (share offset len : ℕ)
    → IsRight d → slice_get d.requests.entries position ≡ Some r
    → r.asked ≡ Reading share offset len → MayBeRead d r.server share offset len

-- a law: what more is asked for once an extension block is accepted, of any share, lies in a
-- section
abbrev pub LaterReadsLieInSections : Type 0
LaterReadsLieInSections = (r : RequestsState) (old new : DownloadState) → IsRight new
    → GoesOn r old new → new.found ≢ None
    → AddsReads (λ server share offset len. LieByFound new.found new.from new.to offset len)
    r.entries new.requests.entries
