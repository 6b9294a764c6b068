-- Who is blamed by a download had sent other bytes than the share has.
use Rattle.std.specs.Prelude.{◌≡◌, ℕ, ◌<◌, List, [], Some, length, slice_get, slice_index_or}
use Rattle.std.specs.Prelude.{Contains}
use Rattle.tagged_hash.specs.Clash.{HasNoClashIn}
use Rattle.cap_text.specs.Cap.{VerifyCapValue, verify_cap_of}
use Rattle.ueb.specs.Shape.{Contents, IsShape}
use Rattle.share_layout.specs.Geometry.{Geometry}
use Rattle.share_layout.specs.Pieces.{segments_of}
use Rattle.share_layout.specs.Share.{Sections}
use Rattle.share_verify.specs.CapBlock.{geometry_by}
use Rattle.share_verify.specs.Verify.{IsSound}
use Rattle.download_shares.specs.declared.holding.Blame.{Blame}
use Rattle.file_encoding.specs.Encoding.{ciphertext_encoding, extension_block_contents}
use Rattle.file_encoding.specs.Inputs.{ciphertext_inputs}
use Rattle.download_core.specs.Right.{IsRight}
use Rattle.download_core.specs.State.{DownloadState, Found}
use Rattle.download_core.specs.Tested.{IsTested}
use Rattle.answer_laws.specs.Downloads.Answers.{AnsweredOther}
use Rattle.answer_laws.specs.Downloads.FairBlame.{AreOf, IsShareOf}

-- A share that passes for a cap, under an extension block with these contents, and has nodes of the
-- trees with the roots that they tell. What is hashed for these is of a kind.
pub record IsShareFor (IsOne : List ℕ → Type 0) (cap : VerifyCapValue) (u : Contents) (num : ℕ)
    (share : List ℕ) : Type 0 where
  pub sections : Sections
  pub segments : List (List ℕ)
  pub shares : List (List ℕ)
  pub sound : IsSound cap num share u sections
  pub of : IsShareOf IsOne (geometry_by u) u num share sections segments shares

-- so are these shares, one for each number that the cap's file has
abbrev pub AreSharesFor : (List ℕ → Type 0) → VerifyCapValue → Contents → List (List ℕ) → Type 0
AreSharesFor IsOne cap u shares =
    (num : ℕ) → num < cap.total → IsShareFor IsOne cap u num (slice_index_or shares num [])

-- A download's extension block, where it accepted one, has these contents. All that it hashed to
-- test what it read is of a kind.
pub record IsDownloadBy (IsOne : List ℕ → Type 0) (u : Contents) (d : DownloadState) : Type 0 where
  pub right : IsRight d
  pub accepted : (f : Found) → d.found ≡ Some f → f.file.handout.ueb ≡ u
  pub tested : (input : List ℕ) → IsTested d input → IsOne input

-- without a clash, who is blamed by such a download had sent other bytes than these shares have
abbrev pub DownloadsBlameFairlyIn : (List ℕ → Type 0) → Type 0
DownloadsBlameFairlyIn IsOne = HasNoClashIn IsOne
    → (d : DownloadState) (u : Contents) (shares : List (List ℕ)) (i : ℕ) (b : Blame)
    → IsDownloadBy IsOne u d → AreSharesFor IsOne (verify_cap_of d.cap) u shares
    → slice_get d.blamed i ≡ Some b
    → AnsweredOther d.requests.entries b.server b.share (slice_index_or shares b.share [])

-- a law: so it is where all that is hashed is in a list
abbrev pub DownloadsBlameFairly : Type 0
DownloadsBlameFairly = (inputs : List (List ℕ)) → DownloadsBlameFairlyIn (Contains inputs)

-- the shares of a ciphertext's encoding are such shares, where all that it hashes is of a kind
abbrev pub EncodedSharesServeIn : (List ℕ → Type 0) → Type 0
EncodedSharesServeIn IsOne = (g : Geometry) (key ciphertext : List ℕ)
    → IsShape g.needed g.total g.size g.segment_size → length ciphertext ≡ g.size
    → AreOf IsOne (ciphertext_inputs g ciphertext)
    → AreSharesFor IsOne (verify_cap_of (ciphertext_encoding g key ciphertext).cap)
    (extension_block_contents g ciphertext (segments_of g ciphertext))
    (ciphertext_encoding g key ciphertext).shares

-- a law: so it is where all that is hashed is in a list
abbrev pub EncodedSharesServe : Type 0
EncodedSharesServe = (inputs : List (List ℕ)) → EncodedSharesServeIn (Contains inputs)
