-- Whether a server answered reads of a share with the share's own bytes.
use Rattle.std.specs.Prelude.{◌≡◌, ◌≢◌, ◌⊎◌, ℕ, List, Some, take, drop, slice_get}
use Rattle.cap_text.specs.Cap.{VerifyCapValue}
use Rattle.ueb.specs.Shape.{Contents}
use Rattle.share_layout.specs.Share.{Sections}
use Rattle.share_verify.specs.CapBlock.{geometry_by}
use Rattle.share_verify.specs.Verify.{IsSound}
use Rattle.download_shares.specs.declared.holding.Blame.{Blame}
use Rattle.download_shares.specs.Causes.{IsBeginningFault}
use Rattle.wire.specs.declared.message.Body.TheVariants.{Data}
use Rattle.request_record.specs.declared.requests.Asked.TheVariants.{Reading}
use Rattle.request_record.specs.declared.requests.Outcome.TheVariants.{Answered}
use Rattle.request_record.specs.declared.requests.Request.{Request}

-- The server answered a read of the share with other bytes than the share has at the offset that
-- was asked: so many from there on, and fewer at its end.
pub record AnsweredOther (entries : List Request) (server num : ℕ) (share : List ℕ) : Type 0 where
  pub position : ℕ
  pub request : Request
  pub there : slice_get entries position ≡ Some request
  pub of_server : request.server ≡ server
  pub offset : ℕ
  pub len : ℕ
  pub asked : request.asked ≡ Reading num offset len
  pub bytes : List ℕ
  pub answer : request.outcome ≡ Answered (Data bytes)
  pub other : bytes ≢ take len (drop offset share)

-- it answered each with the share's own
abbrev pub AnswersOwn : List Request → ℕ → ℕ → List ℕ → Type 0
AnswersOwn entries server num share = (position offset len : ℕ) (request : Request) (bytes : List ℕ)
    → slice_get entries position ≡ Some request → request.server ≡ server
    → request.asked ≡ Reading num offset len → request.outcome ≡ Answered (Data bytes)
    → bytes ≡ take len (drop offset share)

-- a law: each answer of the server has the share's bytes, or one has others
abbrev pub OwnOrOther : Type 0
OwnOrOther = (entries : List Request) (server num : ℕ) (share : List ℕ)
    → AnswersOwn entries server num share ⊎ AnsweredOther entries server num share

-- a law: a share that passes is not blamed for its beginning where its server answered with its own
-- bytes alone
abbrev pub OwnBeginningsGoOn : Type 0
OwnBeginningsGoOn = (cap : VerifyCapValue) (u : Contents) (s : Sections) (share : List ℕ)
    (entries : List Request) (b : Blame) → IsSound cap b.share share u s
    → AnswersOwn entries b.server b.share share
    → ¬ IsBeginningFault cap (geometry_by u) entries b
