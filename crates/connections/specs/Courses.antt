-- What happens over a connection, from its beginning on.
use Rattle.std.specs.Prelude.{◌≡◌, ℕ, List, [], ◌∷◌, ◌++◌}
use Rattle.wire.specs.Frames.{IsMessage, frame}
use Rattle.wire.specs.declared.message.Message.{Message}
use Rattle.connections.specs.Wires.{WireCalls}
use Rattle.connections.specs.Connections.{ConnectionState, Gives, Reads, Sends, put_behind}

-- bytes come over the wire, a message is given, a message is queued, bytes are sent over the wire
pub data Event : Type 0 where
  bytes_come : List ℕ → Event
  is_given : Message → Event
  is_queued : Message → Event
  bytes_go : List ℕ → Event

-- what a call does, where none tells a fault
abbrev pub Happens : {W : Type 0} → WireCalls W → ConnectionState W → Event → ConnectionState W
    → Type 0
Happens calls old (bytes_come bytes) new = Reads calls old bytes new
Happens calls old (is_given m) new = Gives old m new
Happens calls old (is_queued m) new = IsMessage m × (new ≡ put_behind (frame m) old)
Happens calls old (bytes_go bytes) new = Sends calls old bytes new

-- one event after another
abbrev pub Course : {W : Type 0} → WireCalls W → ConnectionState W → List Event
    → ConnectionState W → Type 0
Course calls first [] last = last ≡ first
Course {W = W} calls first (event ∷ events) last =
    (next : ConnectionState W) × Happens calls first event next × Course calls next events last

-- the bytes that came, and those that were sent
abbrev pub bytes_in : List Event → List ℕ
bytes_in [] = []
bytes_in (bytes_come bytes ∷ events) = bytes ++ bytes_in events
bytes_in (is_given m ∷ events) = bytes_in events
bytes_in (is_queued m ∷ events) = bytes_in events
bytes_in (bytes_go bytes ∷ events) = bytes_in events

abbrev pub bytes_out : List Event → List ℕ
bytes_out [] = []
bytes_out (bytes_come bytes ∷ events) = bytes_out events
bytes_out (is_given m ∷ events) = bytes_out events
bytes_out (is_queued m ∷ events) = bytes_out events
bytes_out (bytes_go bytes ∷ events) = bytes ++ bytes_out events

-- the messages that were given, and those that were queued
abbrev pub given : List Event → List Message
given [] = []
given (bytes_come bytes ∷ events) = given events
given (is_given m ∷ events) = m ∷ given events
given (is_queued m ∷ events) = given events
given (bytes_go bytes ∷ events) = given events

abbrev pub queued : List Event → List Message
queued [] = []
queued (bytes_come bytes ∷ events) = queued events
queued (is_given m ∷ events) = queued events
queued (is_queued m ∷ events) = m ∷ queued events
queued (bytes_go bytes ∷ events) = queued events
