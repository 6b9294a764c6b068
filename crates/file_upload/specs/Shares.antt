-- Shares that are there, made ready for their upload.
use Rattle.std.specs.Prelude.{ℕ, ◌≤◌, ◌^◌, List, length, map}
use Rattle.tagged_hash.specs.TaggedHash.{share_digest}
use Rattle.cap_text.specs.Cap.{VerifyCapValue}
use Rattle.upload_core.specs.Pieces.{HaveOneLength, length_of}
use Rattle.upload_core.specs.Ready.{Ready}
use Rattle.upload_core.specs.State.{Goal}

-- what is to be placed: the shares by their digests, for a verify cap
abbrev pub shares_goal : VerifyCapValue → List (List ℕ) → Goal
shares_goal cap shares = record {
  cap = cap;
  digests = map share_digest shares;
  share_length = length_of shares;
  ahead = 1;
}

-- the upload of a cap's shares, of which so many servers are to hold one of their own
abbrev pub ready_shares : VerifyCapValue → ℕ → List (List ℕ) → Ready (List (List ℕ))
ready_shares cap happy shares =
    record { pieces = shares; goal = shares_goal cap shares; happy = happy }

-- so many servers may be wanted for a cap's shares
pub record MayWant (cap : VerifyCapValue) (happy : ℕ) : Type 0 where
  pub some : 1 ≤ happy
  pub reachable : happy ≤ cap.total

-- shares can be uploaded: they are few, of one length, and a server takes so many bytes
pub record AreFit (shares : List (List ℕ)) : Type 0 where
  pub few : length shares ≤ 256
  pub one_length : HaveOneLength shares
  pub some : 1 ≤ length_of shares
  pub short : length_of shares ≤ 2 ^ 41
