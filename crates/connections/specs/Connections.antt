-- What came over a connection and went over it, as greetings and frames.
use Rattle.std.specs.Prelude.{◌≡◌, ◌<◌, ◌≤◌, ◌⊎◌, ⊤, ℕ, List, [], ◌++◌, length, Option, None}
use Rattle.std.specs.Prelude.{Some}
use Rattle.wire.specs.Frames.{IsMessage, frame}
use Rattle.wire.specs.Stream.{BeginsBadFields, BeginsBadKind, BeginsBadLength, FeedState, IsPartial}
use Rattle.wire.specs.Stream.{fed}
use Rattle.wire.specs.declared.message.Message.{Message}
use Rattle.connections.specs.Greetings.{Fits}
use Rattle.connections.specs.Wires.{WireCalls}
use Rattle.connections.specs.declared.connection.Side.{Side}
use Rattle.connections.specs.declared.connection.Side.TheVariants.{Client, Server}
use Rattle.connections.specs.declared.connection.Heard.{Heard}
use Rattle.connections.specs.declared.connection.Heard.TheVariants as heard
use Rattle.connections.specs.declared.connection.Sent.{Sent}
use Rattle.connections.specs.declared.connection.Sent.TheVariants as sent
use Rattle.connections.specs.declared.fault.ConnectionFault.{ConnectionFault}
use Rattle.connections.specs.declared.fault.ConnectionFault.TheVariants as fault

-- One end: whose it is and its greeting, what came of the other end's greeting, the stream of
-- frames that comes behind it, the bytes that are still to be sent, and the fault that was told.
pub record ConnectionState (W : Type 0) : Type 0 where
  pub wire : W
  pub side : Side
  pub own : List ℕ
  pub greeting : List ℕ
  pub came : FeedState
  pub waiting : List ℕ
  pub fault : Option ConnectionFault

-- Nothing came, and nothing went: the own greeting waits.
abbrev pub begun : {W : Type 0} → W → Side → List ℕ → ConnectionState W
begun wire side own = record {
  wire = wire;
  side = side;
  own = own;
  greeting = [];
  came = record { rest = []; fault = None };
  waiting = own;
  fault = None;
}

-- the greetings of both ends fit
abbrev pub AreFit : Side → List ℕ → List ℕ → Type 0
AreFit Client own other = Fits own other
AreFit Server own other = Fits other own

-- the other end's greeting is whole, and fits
pub record HasGreeted {W : Type 0} (c : ConnectionState W) : Type 0 where
  pub whole : length c.greeting ≡ 64
  pub fits : AreFit c.side c.own c.greeting

-- Bytes came over the wire: up to 64 are the other end's greeting, and those behind it go to the
-- stream, while no frame in front of it is whole.
pub record Reads {W : Type 0} (calls : WireCalls W) (old : ConnectionState W) (bytes : List ℕ)
    (new : ConnectionState W) : Type 0 where
  pub comes : calls.came old.wire bytes new.wire
  pub greeting : length old.greeting < 64 → (length new.greeting ≤ 64)
      × (new ≡ record old { wire = new.wire; greeting = old.greeting ++ bytes })
  pub frames : 64 ≤ length old.greeting → IsPartial old.came.rest × (old.came.fault ≡ None)
      × (new ≡ record old { wire = new.wire; came = fed bytes old.came })

-- The frame of this message stood in front of the stream, and is taken.
pub record Gives {W : Type 0} (old : ConnectionState W) (m : Message) (new : ConnectionState W)
    : Type 0 where
  pub greeted : HasGreeted old
  pub right : IsMessage m
  pub front : old.came.rest ≡ frame m ++ new.came.rest
  pub sound : new.came.fault ≡ None
  pub others : new ≡ record old { came = new.came }

-- Bytes in front of those that wait were sent.
pub record Sends {W : Type 0} (calls : WireCalls W) (old : ConnectionState W) (bytes : List ℕ)
    (new : ConnectionState W) : Type 0 where
  pub goes : calls.sent old.wire bytes new.wire
  pub front : old.waiting ≡ bytes ++ new.waiting
  pub others : new ≡ record old { wire = new.wire; waiting = new.waiting }

-- these bytes wait behind what waited
abbrev pub put_behind : {W : Type 0} → List ℕ → ConnectionState W → ConnectionState W
put_behind bytes c = record c { waiting = c.waiting ++ bytes }

-- A message is given, or bytes came, or none is there yet.
abbrev pub Hears : {W : Type 0} → WireCalls W → ConnectionState W → Heard → ConnectionState W
    → Type 0
Hears calls old (heard.Message m) new = Gives old m new
Hears calls old heard.Bytes new = (bytes : List ℕ) × (1 ≤ length bytes) × Reads calls old bytes new
Hears calls old heard.Nothing new = Reads calls old [] new

-- Bytes were sent, or none waits or can be sent yet.
abbrev pub Goes : {W : Type 0} → WireCalls W → ConnectionState W → Sent → ConnectionState W
    → Type 0
Goes calls old sent.Bytes new = (bytes : List ℕ) × (1 ≤ length bytes) × Sends calls old bytes new
Goes calls old sent.Nothing new =
    ((old.waiting ≡ []) × (new ≡ old)) ⊎ Sends calls old [] new

-- what was done where a fault is told
abbrev pub Faults : {W : Type 0} → WireCalls W → ConnectionState W → ConnectionFault
    → ConnectionState W → Type 0
Faults calls old fault.OutOfMemory new = ⊤
Faults calls old fault.Ended new =
    calls.ended old.wire new.wire ⊎ calls.failed old.wire new.wire
Faults calls old fault.OtherGreeting new =
    (length old.greeting ≡ 64) × ¬ AreFit old.side old.own old.greeting
Faults calls old fault.NoFrame new =
    BeginsBadLength old.came.rest ⊎ BeginsBadKind old.came.rest ⊎ BeginsBadFields old.came.rest

-- A fault is told, and is kept. What waits, waits still.
pub record Breaks {W : Type 0} (calls : WireCalls W) (old : ConnectionState W)
    (fault : ConnectionFault) (new : ConnectionState W) : Type 0 where
  pub cause : Faults calls old fault new
  pub kept : new.fault ≡ Some fault
  pub waiting : new.waiting ≡ old.waiting
