-- What the calls of a download do.
use Rattle.std.specs.Prelude.{◌≡◌, ◌≢◌, ◌⊎◌, ℕ, ◌+◌, ◌==◌, List, [], ◌∷◌, ◌++◌, length}
use Rattle.std.specs.Prelude.{Option, Some, None, if◌then◌else◌}
use Rattle.cap_text.specs.Cap.{ReadCapValue}
use Rattle.wire.specs.declared.message.Message.{Message}
use Rattle.request_record.specs.declared.requests.Asked.{Asked}
use Rattle.request_record.specs.Asking.{after_message, after_tick, begun}
use Rattle.request_record.specs.Record.{RequestsState, asked_all}
use Rattle.download_shares.specs.declared.holding.Blame.{Blame}
use Rattle.download_segments.specs.declared.piece.Piece.{Piece}
use Rattle.download_core.specs.declared.status.DownloadStatus.TheVariants.{Running, Done, Failed}
use Rattle.download_core.specs.declared.status.DownloadStatus.TheVariants.{NotEnoughShares}
use Rattle.download_core.specs.Hashed.{StaysGiven, StaysHashed}
use Rattle.download_core.specs.Reads.{PlansMore}
use Rattle.download_core.specs.State.{DownloadState, Found, accepted, handed, ready, with_record}
use Rattle.download_core.specs.Tested.{StaysTested}

-- the servers that are asked which shares they hold: none, where nothing is wanted
abbrev pub asked_servers : ℕ → ℕ → List ℕ → List ℕ
asked_servers from to servers = if from == to then [] else servers

-- A download of a range begins: all servers are asked. One of an empty range is done, and asks
-- nobody; and one without servers has not enough shares.
pub record Begins (cap : ReadCapValue) (from to : ℕ) (servers : List ℕ) (session now : ℕ)
    (d : DownloadState) : Type 0 where
  pub of_cap : d.cap ≡ cap
  pub range : (d.from ≡ from) × (d.to ≡ to)
  pub of_servers : d.servers ≡ servers
  pub asks : d.requests ≡ begun (asked_servers from to servers) session now
  pub nothing : (d.found ≡ None) × (d.blamed ≡ [])
  pub done : from ≡ to → d.status ≡ Done
  pub runs : from ≢ to → servers ≢ [] → d.status ≡ Running
  pub alone : from ≢ to → servers ≡ [] → d.status ≡ NotEnoughShares

-- what is accepted stays so
abbrev pub StaysAccepted : Option ℕ → Option ℕ → Type 0
StaysAccepted None new = Unit {0}
StaysAccepted (Some position) new = new ≡ Some position

-- What a download is for stays, and what it has stays in front. What it gave stays given, and what
-- it hashed stays hashed, also to test what it read.
pub record IsSame (old new : DownloadState) : Type 0 where
  pub cap : new.cap ≡ old.cap
  pub range : (new.from ≡ old.from) × (new.to ≡ old.to)
  pub servers : new.servers ≡ old.servers
  pub given : handed new ≡ handed old
  pub more : List Piece
  pub made : ready new ≡ ready old ++ more
  pub others : List Blame
  pub blamed : new.blamed ≡ old.blamed ++ others
  pub head : StaysAccepted (accepted old) (accepted new)
  pub stays : StaysGiven old new
  pub hashed : StaysHashed old new
  pub tested : StaysTested old new

-- The record goes on from a message or a tick, and while the download runs more may be asked, made
-- and blamed. Where an extension block is accepted then, what more is read is planned.
pub record GoesOn (r : RequestsState) (old new : DownloadState) : Type 0 where
  pub same : IsSame old new
  pub asks : List (ℕ × Asked)
  pub requests : new.requests ≡ asked_all asks r
  pub later : PlansMore new.found r.entries new.requests.entries
  pub ended : old.status ≢ Running → new ≡ with_record old r

abbrev pub Advances : ℕ → Message → ℕ → DownloadState → DownloadState → Type 0
Advances from m now old new = GoesOn (after_message from m now old.requests) old new

abbrev pub TicksOn : ℕ → DownloadState → DownloadState → Type 0
TicksOn now old new = GoesOn (after_tick now old.requests) old new

-- A tick finds no memory. A download that ended is as it was. One that runs fails; its record is as
-- it was, or went on, and what it has stays. Where an extension block is accepted, what more is
-- read is planned.
pub record StopsAt (now : ℕ) (old new : DownloadState) : Type 0 where
  pub same : IsSame old new
  pub requests : (new.requests ≡ old.requests) ⊎ ((asks : List (ℕ × Asked))
      × (new.requests ≡ asked_all asks (after_tick now old.requests)))
  pub later : PlansMore new.found old.requests.entries new.requests.entries
  pub failed : old.status ≡ Running → new.status ≡ Failed
  pub ended : old.status ≢ Running → new ≡ old

-- the file whose pieces were taken up to an offset, where these are left
abbrev pub with_handed : List Piece → ℕ → Found → Found
with_handed pieces offset f = record f {
  file = record f.file {
    handout = record f.file.handout { ready = pieces; handed = offset };
  };
}

abbrev pub found_handed : List Piece → ℕ → Option Found → Option Found
found_handed pieces offset None = None
found_handed pieces offset (Some f) = Some (with_handed pieces offset f)

-- the first piece that is ready is taken
abbrev pub TakesPiece : DownloadState → Option Piece → DownloadState → Type 0
TakesPiece old None new = (ready old ≡ []) × (new ≡ old)
TakesPiece old (Some p) new = (ready old ≡ p ∷ ready new)
    × (new ≡ record old {
      found = found_handed (ready new) (p.offset + length p.bytes) old.found;
    })
