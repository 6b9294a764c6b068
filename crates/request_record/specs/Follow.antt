-- How a record goes on, whatever comes: what was asked stays at its position, and so does what was
-- answered; and what is answered was answered before, or is by the message that came.
use Rattle.std.specs.Prelude.{◌≡◌, ◌⊎◌, ℕ, ◌+◌, List, Some, true, slice_get}
use Rattle.wire.specs.declared.message.Body.{Body}
use Rattle.wire.specs.declared.message.Message.{Message}
use Rattle.request_record.specs.declared.requests.Asked.{Asked}
use Rattle.request_record.specs.declared.requests.Outcome.TheVariants.{Answered}
use Rattle.request_record.specs.declared.requests.Request.{Request}
use Rattle.request_record.specs.Record.{RequestsState, fits}

-- what was asked of a server, and what came for an answer: the position of a request, its server,
-- what it asks and what was answered
abbrev pub Said : Type 1
Said = ℕ → ℕ → Asked → Body → Type 0

-- nothing
abbrev pub Nothing : Said
Nothing position server asked said = ⊥

-- a message from a server answers this request of a session
pub record IsSaid (from : ℕ) (m : Message) (session position server : ℕ) (asked : Asked)
    (said : Body)
    : Type 0 where
  pub session_is : m.session ≡ session
  pub number_is : m.number ≡ position + 1
  pub server_is : server ≡ from
  pub body_is : m.body ≡ said
  pub fitting : fits asked said ≡ true

-- an entry of before, with the same answer
pub record WasAnswered (entries : List Request) (position : ℕ) (s : Request) (said : Body)
    : Type 0 where
  pub request : Request
  pub at : slice_get entries position ≡ Some request
  pub answered : request.outcome ≡ Answered said
  pub server : request.server ≡ s.server
  pub asked : request.asked ≡ s.asked

-- the request that stands at a position now, of the same server and for the same, and with the same
-- answer where it had one
pub record StillAsks (entries : List Request) (position : ℕ) (r : Request) : Type 0 where
  pub request : Request
  pub at : slice_get entries position ≡ Some request
  pub server : request.server ≡ r.server
  pub asked : request.asked ≡ r.asked
  pub answered : (said : Body) → r.outcome ≡ Answered said → request.outcome ≡ Answered said

-- a record goes on, of which these answers may be new
pub record Follows (New : Said) (old new : RequestsState) : Type 0 where
  pub session_is : new.session ≡ old.session
  pub keeps : (position : ℕ) (r : Request) → slice_get old.entries position ≡ Some r
      → StillAsks new.entries position r
  pub answers : (position : ℕ) (s : Request) (said : Body) → slice_get new.entries position ≡ Some s
      → s.outcome ≡ Answered said
      → WasAnswered old.entries position s said ⊎ New position s.server s.asked said
