-- How a download ends.
use Rattle.std.specs.Prelude.{◌≡◌, List, Option, Some, None}
use Rattle.request_record.specs.declared.requests.Request.{Request}
use Rattle.request_record.specs.Record.{outstanding_count}
use Rattle.download_shares.specs.Left.{FewAreLeft}
use Rattle.download_segments.specs.NoCodeWord.{IsNoCodeWord}
use Rattle.download_file.specs.Making.{IsInconsistent}
use Rattle.download_core.specs.State.{DownloadState, Found}

-- nothing is outstanding, and fewer share numbers of the file than are needed are left at any
-- server that offered them
pub record HasTooFew (d : DownloadState) : Type 0 where
  pub quiet : outstanding_count d.requests.entries ≡ 0
  pub few : FewAreLeft d.cap.needed d.cap.total d.requests.entries d.blamed

-- An extension block is accepted, and nobody could have encoded its file: by the answers in the
-- record, the next segment is another than the one whose hash is known, though its blocks are
-- right.
abbrev pub HasNoCodeWord : List Request → Option Found → Type 0
HasNoCodeWord entries None = ⊥
HasNoCodeWord entries (Some f) =
    IsInconsistent entries f.file × IsNoCodeWord f.file.handout.ueb
