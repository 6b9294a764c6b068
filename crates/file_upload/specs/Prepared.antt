-- A file made ready for its upload.
use Rattle.std.specs.Prelude.{ℕ, List}
use Rattle.cap_text.specs.Cap.{ReadCapValue, verify_cap_of}
use Rattle.file_encoding.specs.Encoding.{encoding_of}
use Rattle.file_encoding.specs.Params.{UploadParameters, parameters_of}
use Rattle.upload_core.specs.Ready.{Ready}
use Rattle.upload_core.specs.State.{Goal}
use Rattle.file_upload.specs.Shares.{shares_goal}

-- a file's cap, how many servers are to hold a share of their own, and the shares by number
pub record Prepared : Type 0 where
  pub cap : ReadCapValue
  pub happy : ℕ
  pub shares : List (List ℕ)

-- what a file is made ready as
abbrev pub prepared_of : List ℕ → List ℕ → UploadParameters → Prepared
prepared_of file secret p =
    let encoding = encoding_of file secret (parameters_of p) in
    record { cap = encoding.cap; happy = p.happy; shares = encoding.shares }

-- what is to be placed: the shares by their digests, for the verify cap
abbrev pub goal_of : Prepared → Goal
goal_of p = shares_goal (verify_cap_of p.cap) p.shares

-- its upload
abbrev pub upload_of : Prepared → Ready (List (List ℕ))
upload_of p = record { pieces = p.shares; goal = goal_of p; happy = p.happy }
