-- A server elsewhere, and what goes over its connection.
use Rattle.std.specs.Prelude.{◌≡◌, ◌≤◌, ⊤, ℕ, ◌+◌, ◌-◌, ◌^◌, ◌==◌, ◌&&◌, List, [], Bool, Option}
use Rattle.std.specs.Prelude.{Some, None, is_none, is_some, if◌then◌else◌, length, min, nat_le}
use Rattle.std.specs.Prelude.{nat_lt}
use Rattle.wire.specs.Frames.{frame}
use Rattle.wire.specs.declared.message.Message.{Message}
use Rattle.connections.specs.Connections.{Breaks, ConnectionState, begun, put_behind}
use Rattle.connections.specs.Courses.{Course, Event, given, queued}
use Rattle.connections.specs.Wires.{WireCalls}
use Rattle.connections.specs.declared.connection.Side.TheVariants.{Client}
use Rattle.connections.specs.declared.fault.ConnectionFault.{ConnectionFault}

-- The greeting that a server elsewhere is told, the connection to it where one stands, how often
-- one may still be made, how many messages await an answer, at how many ticks in a row none had
-- come, and the fault with which the last connection to it ended, if it ended with one.
pub record RemoteState (W : Type 0) : Type 0 where
  pub own : List ℕ
  pub connection : Option (ConnectionState W)
  pub tries : ℕ
  pub awaited : ℕ
  pub quiet : ℕ
  pub fault : Option ConnectionFault

-- it is told this greeting, and was not asked yet
abbrev pub unasked : {W : Type 0} → List ℕ → RemoteState W
unasked own = record {
  own = own;
  connection = None;
  tries = 3;
  awaited = 0;
  quiet = 0;
  fault = None;
}

-- nothing comes from it any more
abbrev pub is_silent : {W : Type 0} → RemoteState W → Bool
is_silent r = is_none r.connection && (r.tries == 0)

-- no connection stands, though one was tried
abbrev pub is_away : {W : Type 0} → RemoteState W → Bool
is_away r = is_none r.connection && nat_lt r.tries 3

-- something is awaited of it
abbrev pub is_awaited : {W : Type 0} → RemoteState W → Bool
is_awaited r = is_some r.connection && nat_lt 0 r.awaited

-- how many bytes are still to be sent to it
abbrev pub waiting_for : {W : Type 0} → Option (ConnectionState W) → ℕ
waiting_for None = 0
waiting_for (Some c) = length c.waiting

-- ---- what goes over a connection

-- A connection went on: these messages were given, in this order, and none was queued.
pub record Gave {W : Type 0} (calls : WireCalls W) (old : ConnectionState W)
    (messages : List Message) (new : ConnectionState W) : Type 0 where
  pub events : List Event
  pub course : Course calls old events new
  pub given_is : given events ≡ messages
  pub queued_is : queued events ≡ []

-- It went on, gave nothing, and then told a fault.
pub record IsBroken {W : Type 0} (calls : WireCalls W) (old : ConnectionState W)
    (fault : ConnectionFault) : Type 0 where
  pub reached : ConnectionState W
  pub quietly : Gave calls old [] reached
  pub left : ConnectionState W
  pub breaks : Breaks calls reached fault left

-- The server's connection gave these messages. One that broke gave none; where there is none,
-- nothing was given.
abbrev pub GaveOver : {W : Type 0} → WireCalls W → Option (ConnectionState W) → List Message
    → Option (ConnectionState W) → Type 0
GaveOver calls None messages None = messages ≡ []
GaveOver calls None messages (Some new) = ⊥
GaveOver calls (Some old) messages None =
    (messages ≡ []) × ((fault : ConnectionFault) × IsBroken calls old fault)
GaveOver calls (Some old) messages (Some new) = Gave calls old messages new

-- A server elsewhere gave these messages over its connection. None is made meanwhile.
pub record Gives {W : Type 0} (calls : WireCalls W) (old : RemoteState W)
    (messages : List Message) (new : RemoteState W) : Type 0 where
  pub own : new.own ≡ old.own
  pub tries : new.tries ≤ old.tries
  pub over : GaveOver calls old.connection messages new.connection

-- ---- what is asked

-- a connection that has just begun, with the server's greeting, or none
abbrev pub IsNew : {W : Type 0} → List ℕ → Option (ConnectionState W) → Type 0
IsNew own None = ⊤
IsNew {W = W} own (Some c) = (wire : W) × (c ≡ begun wire Client own)

-- Where no connection stands one is made, if one may be made and it can be. A try is spent.
pub record Connects {W : Type 0} (old new : RemoteState W) : Type 0 where
  pub own : new.own ≡ old.own
  pub tries : new.tries ≡ old.tries - 1
  pub made : IsNew old.own new.connection
  pub fault : new.fault ≡ old.fault
  pub spent : old.tries ≡ 0 → new ≡ old

-- The connection is the one that stood, or one that is made where none stood.
abbrev pub Reaches : {W : Type 0} → Option (ConnectionState W) → RemoteState W → RemoteState W
    → Type 0
Reaches None old new = Connects old new
Reaches (Some c) old new = new ≡ old

-- one more
abbrev pub counted : ℕ → ℕ
counted n = min (n + 1) (2 ^ 64 - 1)

-- one answer more is awaited
abbrev pub awaiting : {W : Type 0} → RemoteState W → RemoteState W
awaiting r = record r {
  awaited = counted r.awaited;
  quiet = if r.awaited == 0 then 0 else r.quiet;
}

-- A message is queued, and its answer awaited. Where too many bytes wait the message is lost.
abbrev pub queued_over : {W : Type 0} → Option (ConnectionState W) → Message → RemoteState W
    → RemoteState W
queued_over None m r = r
queued_over (Some c) m r =
    if nat_lt 16777216 (length c.waiting)
    then r
    else awaiting (record r { connection = Some (put_behind (frame m) c) })

-- A server elsewhere is asked.
pub record IsAsked {W : Type 0} (old : RemoteState W) (m : Message) (new : RemoteState W)
    : Type 0 where
  pub reached : RemoteState W
  pub reaches : Reaches old.connection old reached
  pub queues : new ≡ queued_over reached.connection m reached

-- ---- seconds

-- A server that does not greet is waited for at so many ticks, and else one that does not answer.
abbrev pub patience : {W : Type 0} → Option (ConnectionState W) → ℕ
patience None = 20
patience (Some c) = if length c.greeting == 64 then 20 else 10

-- no connection stands, and none will
abbrev pub given_up : {W : Type 0} → RemoteState W → RemoteState W
given_up r =
    record r { connection = None; tries = 0; awaited = 0; quiet = 0; fault = None }

-- A tick at which something is awaited: the last one at which it may be awaited ends it.
abbrev pub waited : {W : Type 0} → RemoteState W → RemoteState W
waited r =
    if nat_le (patience r.connection) (r.quiet + 1)
    then given_up r
    else record r { quiet = r.quiet + 1 }

abbrev pub ticked_remote : {W : Type 0} → RemoteState W → RemoteState W
ticked_remote r = if is_awaited r then waited r else r

-- ---- words of private clauses

-- What holds of each connection: it began as the client's with this greeting, it told no fault, and
-- no more bytes wait than may wait before a message is queued, and one frame.
pub record IsClients {W : Type 0} (calls : WireCalls W) (own : List ℕ) (c : ConnectionState W)
    : Type 0 where
  pub wire : W
  pub events : List Event
  pub course : Course calls (begun wire Client own) events c
  pub sound : c.fault ≡ None
  pub most : length c.waiting ≤ 16842756
