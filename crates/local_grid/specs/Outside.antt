-- What servers and the clock do, as relations between the state before a call and after it.
use Rattle.std.specs.Prelude.{ℕ, Option}
use Rattle.wire.specs.declared.message.Message.{Message}
use Rattle.local_grid.specs.declared.outside.Happening.{Happening}

-- `clock` is the second. A message is handed to a server, which answered at once or did not; and
-- while the operation waits a message comes from a server, or a second. `hand_stops` and
-- `wait_stops` are what is left where memory was refused to the one or to the other.
pub record OutsideCalls (G : Type 0) : Type 1 where
  pub clock : G → ℕ
  pub handed : G → ℕ → Message → Option Message → G → Type 0
  pub happened : G → Happening → G → Type 0
  pub hand_stops : G → ℕ → Message → G → Type 0
  pub wait_stops : G → G → Type 0
