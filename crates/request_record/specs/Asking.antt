-- What an operation asks, over its record, and the messages that its requests are sent as.
use Rattle.std.specs.Prelude.{◌≡◌, ◌≢◌, ◌⊎◌, ℕ, ◌+◌, ◌<◌, ◌≤◌, List, [], map, max, slice_get}
use Rattle.std.specs.Prelude.{Option, Some, None, drop, length}
use Rattle.wire.specs.declared.message.Body.{Body}
use Rattle.wire.specs.declared.message.Body.TheVariants.{Ask, Allocate, Write, Close, Abort, Read}
use Rattle.wire.specs.declared.message.Message.{Message}
use Rattle.request_record.specs.declared.requests.Asked.{Asked}
use Rattle.request_record.specs.declared.requests.Asked.TheVariants.{Holdings, Allocation}
use Rattle.request_record.specs.declared.requests.Asked.TheVariants.{Writing, Closing}
use Rattle.request_record.specs.declared.requests.Asked.TheVariants.{Reading, Aborting}
use Rattle.request_record.specs.declared.requests.Request.{Request}
use Rattle.request_record.specs.Record.{RequestsState, asked_all, at, counted, lost_positions}
use Rattle.request_record.specs.Record.{outstanding_count}
use Rattle.request_record.specs.Record.{ticked}

-- the record of an operation that asked nothing yet
abbrev pub fresh : ℕ → ℕ → RequestsState
fresh session now = record { session = session; entries = []; outgoing = []; clock = now }

-- each server is asked once which shares it holds
abbrev pub asks_of : List ℕ → List (ℕ × Asked)
asks_of servers = map (λ (server : ℕ). (server, Holdings)) servers

-- the record of an operation that has just begun
abbrev pub begun : List ℕ → ℕ → ℕ → RequestsState
begun servers session now = asked_all (asks_of servers) (fresh session now)

-- the record after a message at a time, and after a tick; time does not go back
abbrev pub after_message : ℕ → Message → ℕ → RequestsState → RequestsState
after_message from m now r = counted from m (at now r)

abbrev pub after_tick : ℕ → RequestsState → RequestsState
after_tick now r = ticked (max r.clock now) r

-- the positions of the requests that a tick finds lost
abbrev pub lost_by_tick : ℕ → RequestsState → List ℕ
lost_by_tick now r = lost_positions (max r.clock now) r.entries

-- a request waits for its answer, or is to be sent
abbrev pub HasWork : RequestsState → Type 0
HasWork r = 0 < outstanding_count r.entries + length r.outgoing

-- two requests ask for no byte of a share twice, and for nothing else twice
abbrev pub AreApart : Asked → Asked → Type 0
AreApart (Reading share offset len) (Reading other at count) =
    share ≡ other → (offset + len ≤ at) ⊎ (at + count ≤ offset)
AreApart a b = a ≢ b

-- no server is asked the same thing twice
abbrev pub AsksOnce : List Request → Type 0
AsksOnce entries =
    (i j : ℕ) (a b : Request) → i < j → slice_get entries i ≡ Some a → slice_get entries j ≡ Some b
    → a.server ≡ b.server → AreApart a.asked b.asked

-- A body asks this of a file's shares. Of a Write it has so many bytes, whatever they are.
abbrev pub Spells : List ℕ → Asked → Body → Type 0
Spells index Holdings (Ask i) = i ≡ index
Spells index (Allocation n len) (Allocate id l) =
    (id ≡ record { index = index; share = n }) × (l ≡ len)
Spells index (Writing n offset len) (Write id o bytes) =
    (id ≡ record { index = index; share = n }) × (o ≡ offset) × (length bytes ≡ len)
Spells index (Closing n) (Close id) = id ≡ record { index = index; share = n }
Spells index (Reading n offset len) (Read id o l) =
    (id ≡ record { index = index; share = n }) × (o ≡ offset) × (l ≡ len)
Spells index (Aborting n) (Abort id) = id ≡ record { index = index; share = n }
Spells index asked body = ⊥

-- is this a Write, whose bytes the record does not know?
abbrev pub IsWriting : Asked → Type 0
IsWriting (Writing n offset len) = Unit {0}
IsWriting asked = ⊥

-- the message of the request at a position: its number is the position, counted from 1
abbrev pub message_at : ℕ → Body → RequestsState → Message
message_at position body r = record { session = r.session; number = position + 1; body = body }

-- the record after its first request to send was sent
abbrev pub one_sent : RequestsState → RequestsState
one_sent r = record r { outgoing = drop 1 r.outgoing }

-- the message of the request at a position, to the server that it asks, for a file of this storage
-- index
pub record IsFrame (index : List ℕ) (r : RequestsState) (position node : ℕ) (m : Message) : Type 0
  where
    pub request : Request
    pub there : slice_get r.entries position ≡ Some request
    pub server : node ≡ request.server
    pub body : Body
    pub spelled : Spells index request.asked body
    pub message : m ≡ message_at position body r

-- The first request to send is sent. Where none is, there is none to send, or the first is a
-- Writing, whose bytes the record does not know.
abbrev pub SendsFirst : List ℕ → RequestsState → Option (ℕ × Message) → RequestsState → Type 0
SendsFirst index old None new = (new ≡ old)
    × ((position : ℕ) (r : Request) → slice_get old.outgoing 0 ≡ Some position
    → slice_get old.entries position ≡ Some r → IsWriting r.asked)
SendsFirst index old (Some f) new = (position : ℕ) × (slice_get old.outgoing 0 ≡ Some position)
    × IsFrame index old position f.0 f.1 × (new ≡ one_sent old)
