-- Hashers of the buckets of a grid's servers.
use Rattle.std.specs.Prelude.{ℕ, ◌<◌, List, Option, IfSome, length, slice_get}
use Rattle.sha2_lanes.specs.Stream.{Taken}
use Rattle.server_core.specs.Buckets.{HasHasherAt}
use Rattle.local_grid.specs.Nodes.{NodeState}

-- a bucket stands at this position of the node, and this is what its hasher has taken in
abbrev pub HasHasherOf : {S L : Type 0} → ℕ → Taken → Option (NodeState S L) → Type 0
HasHasherOf position taken node = IfSome node (λ n. (position < length n.server.buckets)
    × HasHasherAt position taken n.server.buckets)

-- so it is at the node of this number, where there is one
abbrev pub HasHasherIn : {S L : Type 0} → ℕ → ℕ → Taken → List (Option (NodeState S L)) → Type 0
HasHasherIn number position taken nodes =
    IfSome (slice_get nodes number) (HasHasherOf position taken)
