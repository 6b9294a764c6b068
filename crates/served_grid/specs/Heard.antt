-- What is heard of a server elsewhere.
use Rattle.std.specs.Prelude.{◌≡◌, ◌⊎◌, ⊤, ℕ, ◌-◌, List, [], ◌∷◌, Option, Some, None}
use Rattle.wire.specs.declared.message.Message.{Message}
use Rattle.connections.specs.Connections.{ConnectionState}
use Rattle.connections.specs.Wires.{WireCalls}
use Rattle.connections.specs.declared.fault.ConnectionFault.{ConnectionFault}
use Rattle.connections.specs.declared.fault.ConnectionFault.TheVariants as fault
use Rattle.served_grid.specs.Remotes.{Gave, IsBroken, RemoteState}
use Rattle.served_grid.specs.declared.remote.Came.{Came}
use Rattle.served_grid.specs.declared.remote.Came.TheVariants as came

-- the message that came, if one did
abbrev pub messages_of : Came → List Message
messages_of (came.Message m) = m ∷ []
messages_of came.More = []
messages_of came.Nothing = []

-- there is nothing
abbrev pub IsNothing : Came → Type 0
IsNothing (came.Message m) = ⊥
IsNothing came.More = ⊥
IsNothing came.Nothing = ⊤

-- A connection is not made anew to a server that is another, or that sent what is no frame.
abbrev pub tries_after : ConnectionFault → ℕ → ℕ
tries_after fault.OutOfMemory tries = tries
tries_after fault.Ended tries = tries
tries_after fault.OtherGreeting tries = 0
tries_after fault.NoFrame tries = 0

-- the connection ended with a fault
abbrev pub ended_with : {W : Type 0} → ConnectionFault → RemoteState W → RemoteState W
ended_with fault r = record r {
  connection = None;
  tries = tries_after fault r.tries;
  awaited = 0;
  fault = Some fault;
}

-- A message that came is awaited no longer.
abbrev pub noted : {W : Type 0} → Came → RemoteState W → RemoteState W
noted (came.Message m) r = record r { awaited = r.awaited - 1; quiet = 0 }
noted came.More r = r
noted came.Nothing r = r

-- The connection went on, and gave the message that came, if one did.
pub record HearsOver {W : Type 0} (calls : WireCalls W) (old : RemoteState W)
    (c : ConnectionState W) (came : Came) (new : RemoteState W) : Type 0 where
  pub connection : ConnectionState W
  pub gave : Gave calls c (messages_of came) connection
  pub after : new ≡ noted came (record old { connection = Some connection })

-- The connection told a fault, and ended.
pub record Loses {W : Type 0} (calls : WireCalls W) (old : RemoteState W)
    (c : ConnectionState W) (new : RemoteState W) : Type 0 where
  pub fault : ConnectionFault
  pub broken : IsBroken calls c fault
  pub after : new ≡ ended_with fault old

-- What was heard of a server elsewhere. Of one to which no connection stands it is nothing.
abbrev pub Hears : {W : Type 0} → WireCalls W → RemoteState W → Option (ConnectionState W) → Came
    → RemoteState W → Type 0
Hears calls old None came new = IsNothing came × (new ≡ old)
Hears calls old (Some c) came new =
    HearsOver calls old c came new ⊎ (IsNothing came × Loses calls old c new)

-- Memory was refused as it was heard: its connection ended.
abbrev pub HearsInVain : {W : Type 0} → WireCalls W → RemoteState W → Option (ConnectionState W)
    → RemoteState W → Type 0
HearsInVain calls old None new = ⊥
HearsInVain calls old (Some c) new = Loses calls old c new
