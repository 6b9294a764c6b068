-- The answers that come over the servers of one process.
use Rattle.std.specs.Prelude.{ℕ, Some}
use Rattle.wire.specs.declared.message.Message.{Message}
use Rattle.request_record.specs.Operations.{OperationCalls}
use Rattle.share_store.specs.Calls.{Calls}
use Rattle.local_grid.specs.Nodes.{Carries}
use Rattle.local_grid.specs.Turns.{Asks, LoopState}

-- In a turn a server was asked, and this answer came from it over its link.
pub record IsAnswered {O S L : Type 0} (operation : OperationCalls O) (calls : Calls S)
    (carries : Carries L) (server : ℕ) (answer : Message) (old new : LoopState O S L)
    : Type 0 where
  pub asked : Message
  pub taken : O
  pub takes : operation.takes old.operation (Some (server, asked)) taken
  pub asks : Asks calls carries old.grid server asked (Some answer) new.grid
  pub hears : operation.hears taken server answer old.grid.clock new.operation
