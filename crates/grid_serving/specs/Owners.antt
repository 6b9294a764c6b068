-- Open buckets are those of clients that are there.
use Rattle.std.specs.Prelude.{◌≡◌, ⊤, ℕ, List, Option, Some, None, slice_get, slice_set}
use Rattle.std.specs.List.{AllByRecursion}
use Rattle.share_store.specs.Calls.{Calls}
use Rattle.server_core.specs.declared.bucket.Bucket.{Bucket}
use Rattle.server_core.specs.ServerState.{ServerState, Ticks}
use Rattle.connections.specs.Wires.{WireCalls}
use Rattle.grid_serving.specs.Places.{ClientState}
use Rattle.grid_serving.specs.Turns.{FailsInTurn, LeaveInTurn, ServesInTurn}

-- somebody is at this place
abbrev pub IsThere : {C : Type 0} → Option (Option C) → Type 0
IsThere (Some (Some c)) = ⊤
IsThere (Some None) = ⊥
IsThere None = ⊥

-- Each bucket is that of a client that is there: who is not there has none.
abbrev pub AreTheirs : {C : Type 0} → List (Option C) → List Bucket → Type 0
AreTheirs clients buckets =
    AllByRecursion (λ (b : Bucket). IsThere (slice_get clients b.client)) buckets

-- So it stays, whatever the clients do, as time goes on, as clients come, and as they go.
pub record StayTheirs {W S : Type 0} (wires : WireCalls W) (calls : Calls S) : Type 0 where
  pub served : (nodes : List ℕ) (now : ℕ) (old new : List (Option (ClientState W)))
      (before after : ServerState S) → ServesInTurn wires calls nodes now old before new after
      → AreTheirs old before.buckets → AreTheirs new after.buckets
  pub failed : (nodes : List ℕ) (now : ℕ) (old new : List (Option (ClientState W)))
      (before after : ServerState S) → FailsInTurn wires calls nodes now old before new after
      → AreTheirs old before.buckets → AreTheirs new after.buckets
  pub left : (nodes : List ℕ) (old new : List (Option (ClientState W)))
      (before after : ServerState S) → LeaveInTurn calls nodes old before new after
      → AreTheirs old before.buckets → AreTheirs new after.buckets
  pub come : (node : ℕ) (client : ClientState W)
      (clients : List (Option (ClientState W))) (buckets : List Bucket)
      → slice_get clients node ≡ Some None → AreTheirs clients buckets
      → AreTheirs (slice_set clients node (Some client)) buckets
  pub ticked : (now : ℕ) (clients : List (Option (ClientState W)))
      (before after : ServerState S) → Ticks before now after
      → AreTheirs clients before.buckets → AreTheirs clients after.buckets
