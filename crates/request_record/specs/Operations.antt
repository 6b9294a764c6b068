-- What the calls of an operation do, as relations between its state before a call and after it.
use Rattle.std.specs.Prelude.{ℕ, Bool, Option}
use Rattle.wire.specs.declared.message.Message.{Message}
use Rattle.request_record.specs.Record.{RequestsState}

-- `requests` is the record of what an operation asked, and `runs` whether it has still to be
-- carried on. It takes the next message for a node, or none; hears a message from a node at a
-- second; and ticks at a second. `gives_up` is what a call does that was refused memory.
pub record OperationCalls (O : Type 0) : Type 1 where
  pub requests : O → RequestsState
  pub runs : O → Bool
  pub takes : O → Option (ℕ × Message) → O → Type 0
  pub hears : O → ℕ → Message → ℕ → O → Type 0
  pub ticks : O → ℕ → O → Type 0
  pub gives_up : O → O → Type 0
