-- A download whose pieces are taken as soon as they are made.
use Rattle.std.specs.Prelude.{◌≡◌, ℕ, ◌+◌, List, [], ◌∷◌, ◌++◌, length}
use Rattle.download_segments.specs.declared.piece.Piece.{Piece}
use Rattle.download_core.specs.Calls.{download_calls}
use Rattle.download_core.specs.Moves.{found_handed}
use Rattle.download_core.specs.State.{DownloadState, handed, ready}
use Rattle.request_record.specs.Operations.{OperationCalls}

-- the offset behind the last of these pieces, or this offset where there is none
abbrev pub end_of : ℕ → List Piece → ℕ
end_of offset [] = offset
end_of offset (p ∷ ps) = end_of (p.offset + length p.bytes) ps

-- These pieces were taken: the first ones of those that were ready.
pub record Hands (pieces : List Piece) (old new : DownloadState) : Type 0 where
  pub taken : ready old ≡ pieces ++ ready new
  pub others : new
      ≡ record old { found = found_handed (ready new) (end_of (handed old) pieces) old.found }

-- A call moves the download, and then pieces are taken.
pub record MovesAndHands (moves : DownloadState → DownloadState → Type 0)
    (old new : DownloadState) : Type 0 where
  pub moved : DownloadState
  pub moves_on : moves old moved
  pub pieces : List Piece
  pub hands : Hands pieces moved new

-- What the calls of such a download do. An answer or a tick makes pieces, which are taken.
abbrev pub handing_calls : OperationCalls DownloadState
handing_calls = record {
  requests = download_calls.requests;
  runs = download_calls.runs;
  takes = download_calls.takes;
  hears = λ old from m now new.
      MovesAndHands (λ was is. download_calls.hears was from m now is) old new;
  ticks = λ old now new. MovesAndHands (λ was is. download_calls.ticks was now is) old new;
  gives_up = download_calls.gives_up;
}
