-- What the calls of an operation do, whatever its machine is.
use Rattle.std.specs.Prelude.{◌≡◌, ◌≢◌, ℕ, Bool, true, false, List, [], ◌∷◌, ◌++◌, length, ⊤}
use Rattle.std.specs.Prelude.{Option, Some, None}
use Rattle.wire.specs.declared.message.Message.{Message}
use Rattle.wire.specs.Frames.{IsMessage, spelling}
use Rattle.sources.specs.Texts.{Changing as TwoTexts, GivesChanging}
use Rattle.file_encoding.specs.Params.{UploadParameters, parameters_of}
use Rattle.file_streaming.specs.Prepared.{IsPreparedFrom}
use Rattle.file_upload.specs.Prepared.{goal_of, prepared_of}
use Rattle.file_upload.specs.Ready.{goal_of as kept_goal}
use Rattle.file_upload.specs.Streamed.{Streaming}
use Rattle.upload_core.specs.declared.status.ServerInfo.{ServerInfo}
use Rattle.request_record.specs.Operations.{OperationCalls}
use Rattle.upload_core.specs.Calls.{upload_calls}
use Rattle.upload_core.specs.Moves as upload
use Rattle.upload_core.specs.Sending as upload_sends
use Rattle.download_segments.specs.declared.piece.Piece.{Piece}
use Rattle.download_core.specs.Moves as download
use Rattle.download_core.specs.Calls.{download_calls}
use Rattle.download_core.specs.State.{DownloadState}
use Rattle.download_core.specs.declared.status.DownloadStatus.TheVariants.{Failed}
use Rattle.checker.specs.Moves as check
use Rattle.checker.specs.Calls.{check_calls}
use Rattle.checker.specs.State.{CheckState}
use Rattle.world_operations.specs.declared.job.Job.{Job}
use Rattle.world_operations.specs.declared.job.Job.TheVariants as jobs
use Rattle.world_operations.specs.declared.message.Sent.{Sent}
use Rattle.world_operations.specs.declared.operation.Operation.{Operation}
use Rattle.world_operations.specs.declared.upload_pieces.UploadPieces.{UploadPieces}
use Rattle.world_operations.specs.declared.upload_pieces.UploadPieces.TheVariants.{Whole, Streamed}
use Rattle.world_operations.specs.declared.task.Task.{Task}
use Rattle.world_operations.specs.declared.task.Task.TheVariants.{Uploading, Downloading}
use Rattle.world_operations.specs.declared.task.Task.TheVariants.{Checking, Gone}
use Rattle.world_operations.specs.Jobs.{HasOneKey, changing}
use Rattle.world_operations.specs.Tasks.{requests_of}
use Rattle.world_operations.specs.UploadPieces.{fails, gives}

-- An upload begins of a source that changes: it was read twice, and what is kept is of what the
-- second pass brought.
pub record BeginsChanging (file other : List ℕ) (after : ℕ) (secret : List ℕ)
    (p : UploadParameters) (servers : List ServerInfo) (session now : ℕ)
    (u : upload_sends.Uploading UploadPieces) : Type 0 where
  pub stream : Streaming TwoTexts
  pub prepared : IsPreparedFrom GivesChanging (length file) (changing file other after) secret
      (parameters_of p) stream.kept stream.source
  pub begins : upload.Begins (kept_goal stream.kept) p.happy servers session now u.course
  pub pieces : u.pieces ≡ Streamed stream

-- it has failed as it began: the two passes over its source have two keys
abbrev pub FailsChanging : Job → Type 0
FailsChanging job = HasOneKey job → ⊥

-- a task begins as its job says, with all of these servers
abbrev pub Begins : Job → List ServerInfo → List ℕ → ℕ → ℕ → Task → Type 0
Begins (jobs.Upload file secret p) servers nodes session now (Uploading u) =
    upload.Begins (goal_of (prepared_of file secret p)) p.happy servers session now u.course
    × (u.pieces ≡ Whole (prepared_of file secret p).shares)
Begins (jobs.Changing file other after secret p) servers nodes session now (Uploading u) =
    BeginsChanging file other after secret p servers session now u
Begins (jobs.Changing file other after secret p) servers nodes session now (Gone number) =
    (number ≡ session) × FailsChanging (jobs.Changing file other after secret p)
Begins (jobs.Download cap from to) servers nodes session now (Downloading d) =
    download.Begins cap from to nodes session now d
Begins (jobs.Check cap) servers nodes session now (Checking c) =
    check.Begins cap nodes session now c × (c.keeps ≡ true)
Begins job servers nodes session now task = ⊥

-- a call that succeeds makes no download fail
abbrev pub StaysWell : DownloadState → DownloadState → Type 0
StaysWell old new = old.status ≢ Failed → new.status ≢ Failed

-- A call of a task is a call of its machine, by a relation for each kind. One that is gone stays
-- so, and this holds of its calls.
abbrev pub Calls : (upload_sends.Uploading UploadPieces → upload_sends.Uploading UploadPieces
    → Type 0) → (DownloadState → DownloadState → Type 0) → (CheckState → CheckState → Type 0)
    → Type 0 → Task → Task → Type 0
Calls uploads downloads checks gone (Uploading old) (Uploading new) = uploads old new
Calls uploads downloads checks gone (Downloading old) (Downloading new) = downloads old new
Calls uploads downloads checks gone (Checking old) (Checking new) = checks old new
Calls uploads downloads checks gone (Gone number) new = gone × (new ≡ Gone number)
Calls uploads downloads checks gone old new = ⊥

-- a message, a tick, a message that is taken, and what a call does that was refused memory
abbrev pub Advances : ℕ → Message → ℕ → Task → Task → Type 0
Advances from m now = Calls (λ old new. (upload_calls gives fails).hears old from m now new)
    (λ old new. download_calls.hears old from m now new × StaysWell old new)
    (λ old new. check_calls.hears old from m now new) ⊤

abbrev pub TicksOn : ℕ → Task → Task → Type 0
TicksOn now = Calls (λ old new. (upload_calls gives fails).ticks old now new)
    (λ old new. download_calls.ticks old now new × StaysWell old new)
    (λ old new. check_calls.ticks old now new) ⊤

abbrev pub Takes : Task → Option (ℕ × Message) → Task → Type 0
Takes old taken new = Calls (λ u v. (upload_calls gives fails).takes u taken v)
    (λ d e. download_calls.takes d taken e) (λ c e. check_calls.takes c taken e) (taken ≡ None)
    old new

abbrev pub GivesUp : Task → Task → Type 0
GivesUp = Calls (upload_calls gives fails).gives_up download_calls.gives_up check_calls.gives_up ⊥

-- has it still to be carried on?
abbrev pub is_to_carry : Task → Bool
is_to_carry (Uploading u) = (upload_calls gives fails).runs u
is_to_carry (Downloading d) = download_calls.runs d
is_to_carry (Checking c) = check_calls.runs c
is_to_carry (Gone number) = false

-- what the calls of a task do
abbrev pub task_calls : OperationCalls Task
task_calls = record {
  requests = requests_of;
  runs = is_to_carry;
  takes = Takes;
  hears = λ old from m now new. Advances from m now old new;
  ticks = λ old now new. TicksOn now old new;
  gives_up = GivesUp;
}

-- only a download hands pieces out
abbrev pub TakesPiece : Task → Option Piece → Task → Type 0
TakesPiece (Downloading old) piece (Downloading new) = download.TakesPiece old piece new
TakesPiece (Uploading u) piece new = (piece ≡ None) × (new ≡ Uploading u)
TakesPiece (Checking c) piece new = (piece ≡ None) × (new ≡ Checking c)
TakesPiece (Gone number) piece new = (piece ≡ None) × (new ≡ Gone number)
TakesPiece (Downloading old) piece new = ⊥

-- a message that a node sends
abbrev pub sent_to : ℕ → ℕ → Message → Sent
sent_to from to m = record { from = from; to = to; body = spelling m }

-- these pieces are taken, in order
abbrev pub HandsSome : Task → List Piece → Task → Type 0
HandsSome old [] new = new ≡ old
HandsSome old (p ∷ ps) new = (mid : Task) × TakesPiece old (Some p) mid × HandsSome mid ps new

-- and then there is none
abbrev pub HandsOut : Task → List Piece → Task → Type 0
HandsOut old pieces new = (last : Task) × HandsSome old pieces last × TakesPiece last None new

-- the next piece is taken, if there is one, which `more` says
abbrev pub HandsOne : Task → List Piece → Bool → Task → List Piece → Type 0
HandsOne old before false new after = TakesPiece old None new × (after ≡ before)
HandsOne old before true new after =
    (p : Piece) × TakesPiece old (Some p) new × (after ≡ before ++ p ∷ [])

-- These messages are sent, in order. Each can be spelled.
abbrev pub Sends : ℕ → Task → List Sent → Task → Type 0
Sends node old [] new = new ≡ old
Sends node old (x ∷ xs) new = (to : ℕ) × (m : Message) × (mid : Task)
    × Takes old (Some (to, m)) mid × IsMessage m × (x ≡ sent_to node to m) × Sends node mid xs new

-- and then there is none to send
abbrev pub SendsAll : ℕ → Task → List Sent → Task → Type 0
SendsAll node old sent new = (last : Task) × Sends node old sent last × Takes last None new

-- the next message is sent, if there is one, which `more` says
abbrev pub SendsOne : ℕ → Task → List Sent → Bool → Task → List Sent → Type 0
SendsOne node old before false new after = Takes old None new × (after ≡ before)
SendsOne node old before true new after = (to : ℕ) × (m : Message) × Takes old (Some (to, m)) new
    × IsMessage m × (after ≡ before ++ sent_to node to m ∷ [])

-- What an operation's machine made is handed out, and then what it has to send is sent.
pub record IsFlushed (old : Operation) (sent : List Sent) (new : Operation) : Type 0 where
  pub pieces : List Piece
  pub handed : Task
  pub last : Task
  pub hands : HandsOut old.task pieces handed
  pub sends : SendsAll old.node handed sent last
  pub is : new ≡ record old { task = last; given = old.given ++ pieces }

-- a message comes to an operation
pub record OperationGets (from : ℕ) (m : Message) (now : ℕ) (old : Operation) (sent : List Sent)
    (new : Operation) : Type 0 where
  pub mid : Task
  pub advances : Advances from m now old.task mid
  pub flushed : IsFlushed (record old { task = mid }) sent new

-- an operation ticks
pub record OperationTicks (now : ℕ) (old : Operation) (sent : List Sent) (new : Operation)
    : Type 0 where
  pub mid : Task
  pub ticks : TicksOn now old.task mid
  pub flushed : IsFlushed (record old { task = mid }) sent new
