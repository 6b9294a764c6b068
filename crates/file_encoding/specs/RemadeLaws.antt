-- Laws of shares that are made anew.
use Rattle.std.specs.Prelude.{◌≡◌, ℕ, ◌<◌, ◌≤◌, ◌^◌, List, [], length, slice_index, slice_index_or}
use Rattle.std.specs.Prelude.{All}
use Rattle.std.specs.List.{flat_map}
use Rattle.tagged_hash.specs.Clash.{HasNoClash}
use Rattle.merkle.specs.Inputs.{AreAmong}
use Rattle.cap_text.specs.Cap.{VerifyCapValue, verify_cap_of}
use Rattle.ueb.specs.Shape.{IsShape}
use Rattle.share_layout.specs.Geometry.{geometry_of}
use Rattle.share_verify.specs.Inputs.{share_inputs}
use Rattle.share_verify.specs.Verify.{IsSoundShare}
use Rattle.file_encoding.specs.Encoding.{Parameters, encoding_of}
use Rattle.file_encoding.specs.Inputs.{encoding_inputs}
use Rattle.file_encoding.specs.Reading.{AreRising, IsSoundAt, LacksShares, TakenShare, Takes}
use Rattle.zfec_code.specs.Rows.{AreDistinct}
use Rattle.file_encoding.specs.Regenerated.{AreRegenerated, CannotRegenerate}

-- shares are as many as the cap's file has, pass every check, each as the share of its number, and
-- have one length
pub record ArePassing (cap : VerifyCapValue) (shares : List (List ℕ)) : Type 0 where
  pub count : length shares ≡ cap.total
  pub sound : (i : ℕ) → i < cap.total → IsSoundShare cap i (slice_index_or shares i [])
  pub one_length : (i j : ℕ) → i < cap.total → j < cap.total
      → length (slice_index_or shares i []) ≡ length (slice_index_or shares j [])
  -- no more bytes than a server takes
  pub some : (i : ℕ) → i < cap.total → 1 ≤ length (slice_index_or shares i [])
  pub short : (i : ℕ) → i < cap.total → length (slice_index_or shares i []) ≤ 2 ^ 41

-- a law: so it is with shares that are made anew, whoever made the cap
abbrev pub RegeneratedPass : Type 0
RegeneratedPass = (cap : VerifyCapValue) (numbers : List ℕ) (strings shares : List (List ℕ))
    → AreRegenerated cap numbers strings shares → ArePassing cap shares

-- what is hashed for the shares that are taken
abbrev pub taken_inputs : List TakenShare → List (List ℕ)
taken_inputs taken = flat_map (λ (t : TakenShare). share_inputs t.contents t.number t.sections)
    taken

abbrev pub AreTakenAmong : List (List ℕ) → VerifyCapValue → List ℕ → List (List ℕ) → Type 0
AreTakenAmong inputs cap numbers strings =
    (taken : List TakenShare) → Takes cap numbers strings taken
    → AreAmong inputs (taken_inputs taken)

-- of these strings the file's own shares are made, and nothing keeps them from being made
pub record GiveOwnShares (cap : VerifyCapValue) (numbers : List ℕ) (strings : List (List ℕ))
    (own : List (List ℕ)) : Type 0 where
  pub only : (shares : List (List ℕ)) → AreRegenerated cap numbers strings shares → shares ≡ own
  pub can : ¬ CannotRegenerate cap numbers strings

-- A law: without a clash among what a file's encoding hashes and what is hashed for the shares that
-- are taken, shares that pass for the encoding's verify cap give all shares of the encoding, byte
-- for byte, without the key.
abbrev pub GoodSharesGiveOwn : Type 0
GoodSharesGiveOwn = (inputs : List (List ℕ)) → HasNoClash inputs
    → (file secret : List ℕ) (p : Parameters)
    → IsShape p.needed p.total (length file)
    (geometry_of (length file) p.needed p.total p.max_segment).segment_size
    → ((i : ℕ) → slice_index file i < 256) → AreAmong inputs (encoding_inputs file secret p)
    → (numbers : List ℕ) (strings : List (List ℕ))
    → AreTakenAmong inputs (verify_cap_of (encoding_of file secret p).cap) numbers strings
    → GiveOwnShares (verify_cap_of (encoding_of file secret p).cap) numbers strings
    (encoding_of file secret p).shares

-- so many different numbers pass
pub record PassDifferent (cap : VerifyCapValue) (numbers : List ℕ) (strings : List (List ℕ))
    (count : ℕ) : Type 0 where
  pub some : List ℕ
  pub counted : length some ≡ count
  pub distinct : AreDistinct some
  pub pass : All (λ n. (position : ℕ) × (position < length numbers)
      × IsSoundAt cap numbers strings n position) some

-- a law: where as many numbers pass as are needed, shares are not lacking
abbrev pub EnoughPass : Type 0
EnoughPass = (cap : VerifyCapValue) (numbers : List ℕ) (strings : List (List ℕ))
    → PassDifferent cap numbers strings cap.needed → ¬ LacksShares cap numbers strings

-- these strings pass, each with the number that stands at its position, and the numbers rise
pub record AllPass (cap : VerifyCapValue) (numbers : List ℕ) (strings : List (List ℕ)) : Type 0
  where
    pub rising : AreRising numbers
    pub sound : (i : ℕ) → i < length numbers
        → IsSoundShare cap (slice_index numbers i) (slice_index_or strings i [])

-- a law: where all strings pass and are as many as are needed, shares are not lacking
abbrev pub FewLack : Type 0
FewLack = (cap : VerifyCapValue) (numbers : List ℕ) (strings : List (List ℕ))
    → AllPass cap numbers strings → cap.needed ≤ length numbers → ¬ LacksShares cap numbers strings
