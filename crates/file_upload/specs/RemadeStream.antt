-- A source of padded ciphertext with what is kept of it: where the bytes of an upload's shares come
-- from that are made anew.
use Rattle.std.specs.Prelude.{◌≡◌, ℕ, List, length, map}
use Rattle.tagged_hash.specs.TaggedHash.{share_digest}
use Rattle.cap_text.specs.Cap.{VerifyCapValue}
use Rattle.ueb.specs.Shape.{Contents}
use Rattle.share_verify.specs.CapBlock.{geometry_by}
use Rattle.file_encoding.specs.Padded.{padded_shares}
use Rattle.sources.specs.Source.{HasFailedMore}
use Rattle.block_making.specs.Making.{WereRead}
use Rattle.share_gathering.specs.KeptFile.{GivesKept, kept_length}
use Rattle.file_streaming.specs.Remade.{IsOfNoText, IsTextOf, RemadeFile, remade_by}
use Rattle.upload_core.specs.Pieces.{length_of}
use Rattle.upload_core.specs.Ready.{Ready}
use Rattle.upload_core.specs.State.{Goal}
use Rattle.upload_core.specs.declared.pieces.PieceFault.{PieceFault}
use Rattle.upload_core.specs.declared.pieces.PieceFault.TheVariants.{OutOfMemory, SourceChanged}
use Rattle.upload_core.specs.declared.pieces.PieceFault.TheVariants.{SourceFault}

-- a source, and what is kept of what its first pass brought
pub record RemadeStreaming (S : Type 0) : Type 0 where
  pub source : S
  pub remade : RemadeFile

-- A piece was given, by the hashes that are kept, and these stay. Of the source the segments were
-- read whose blocks it meets.
pub record GaveRemade {S : Type 0} (gives : S → ℕ → List ℕ → S → Type 0) (old : RemadeStreaming S)
    (share offset : ℕ) (bytes : List ℕ) (new : RemadeStreaming S) : Type 0 where
  pub piece : GivesKept old.remade.kept share offset bytes
  pub kept : new.remade ≡ old.remade
  pub read : WereRead gives old.source old.remade.kept.geometry offset (length bytes) new.source

-- Why no piece was given. A piece takes no memory. For each text whose hashes are kept the source
-- brought other bytes than the text's, or ended before its end; or a read failed.
abbrev pub IsWhyNoneRemade : {S : Type 0} → (S → ℕ → List ℕ → S → Type 0) → (S → ℕ)
    → RemadeStreaming S → PieceFault → S → Type 0
IsWhyNoneRemade gives failures old OutOfMemory new = ⊥
IsWhyNoneRemade gives failures old SourceChanged new = IsOfNoText gives old.remade old.source new
IsWhyNoneRemade gives failures old SourceFault new =
    HasFailedMore (failures old.source) (failures new)

-- no piece was given, and what is kept stays
pub record GaveNoRemade {S : Type 0} (gives : S → ℕ → List ℕ → S → Type 0) (failures : S → ℕ)
    (old : RemadeStreaming S) (fault : PieceFault) (new : RemadeStreaming S) : Type 0 where
  pub kept : new.remade ≡ old.remade
  pub why : IsWhyNoneRemade gives failures old fault new.source

-- what is to be placed: the shares by their digests, for the verify cap
abbrev pub remade_goal : RemadeFile → Goal
remade_goal remade = record {
  cap = remade.cap;
  digests = remade.kept.digests;
  share_length = kept_length remade.kept;
  ahead = 1;
}

-- the upload of what is kept, of which so many servers are to hold a share of their own
abbrev pub ready_remade : {S : Type 0} → RemadeStreaming S → ℕ → Ready (RemadeStreaming S)
ready_remade s happy = record { pieces = s; goal = remade_goal s.remade; happy = happy }

-- a law: by what is kept of a padded ciphertext the same is to be placed as by its whole shares
abbrev pub RemadeGoalsAreOne : Type 0
RemadeGoalsAreOne = (cap : VerifyCapValue) (extension_block : List ℕ) (u : Contents)
    (text : List ℕ) → IsTextOf cap extension_block u text
    → let shares = padded_shares (geometry_by u) text extension_block in
    remade_goal (remade_by (geometry_by u) cap extension_block text) ≡ record {
      cap = cap;
      digests = map share_digest shares;
      share_length = length_of shares;
      ahead = 1;
    }
