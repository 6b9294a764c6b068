-- What servers over stores that keep hold, once an upload was carried over them.
use Rattle.std.specs.Prelude.{◌≡◌, ℕ, List, [], Option, Some, None, Contains, slice_get, ⊤}
use Rattle.std.specs.Prelude.{slice_index_or}
use Rattle.tagged_hash.specs.Clash.{HasNoClash}
use Rattle.tagged_hash.specs.TaggedHash.{share_digest, tagged_input}
use Rattle.tagged_hash.specs.declared.tag.Tag.TheVariants.{WholeShare}
use Rattle.wire.specs.declared.message.ShareId.{ShareId}
use Rattle.request_record.specs.declared.requests.Request.{Request}
use Rattle.share_store.specs.Shelf.{Shelf, closed_at}
use Rattle.share_store.specs.declared.shelf.ClosedShare.{ClosedShare}
use Rattle.server_core.specs.Sound.{ClosedStay, IsSound, over}
use Rattle.placement.specs.Matching.{Pair}
use Rattle.upload_core.specs.Acknowledged.{acked_pairs}
use Rattle.upload_core.specs.State.{Goal}
use Rattle.local_grid.specs.Nodes.{Carries, NodeState}
use Rattle.local_grid.specs.Turns.{GridState}

-- what a link in memory carries: each message comes as it was sent
abbrev pub memory_carries : Carries (Unit {0})
memory_carries link way sent came after = came ≡ Some sent

-- where memory is refused a link in memory is as good as before
abbrev pub memory_gives_up : Unit {0} → Unit {0} → Type 0
memory_gives_up link after = Unit {0}

-- the server of this number is there
abbrev pub IsNode : {S L : Type 0} → GridState S L → ℕ → NodeState S L → Type 0
IsNode grid number n = slice_get grid.nodes number ≡ Some (Some n)

-- Each server that is there is sound: its closed shares have the digests of their bytes.
abbrev pub AreSound : {S L : Type 0} → (S → Shelf) → GridState S L → Type 0
AreSound {S = S} {L = L} shelf grid =
    (number : ℕ) (n : NodeState S L) → IsNode grid number n → IsSound (over shelf n.server)

-- Each closed share of a server stays as it is, and a sound server stays sound.
pub record Stays {S L : Type 0} (shelf : S → Shelf) (was is : NodeState S L) : Type 0 where
  pub closed : ClosedStay (shelf was.server.store) (shelf is.server.store)
  pub sound : IsSound (over shelf was.server) → IsSound (over shelf is.server)

-- A server that is there stays there, and one that is missing stays missing.
abbrev pub StaysThere : {S L : Type 0} → (S → Shelf) → Option (Option (NodeState S L))
    → Option (Option (NodeState S L)) → Type 0
StaysThere shelf (Some (Some was)) (Some (Some is)) = Stays shelf was is
StaysThere shelf (Some None) (Some None) = ⊤
StaysThere shelf None None = ⊤
StaysThere shelf was is = ⊥

-- So it is at each number.
abbrev pub AllStay : {S L : Type 0} → (S → Shelf) → GridState S L → GridState S L → Type 0
AllStay shelf old new =
    (number : ℕ) → StaysThere shelf (slice_get old.nodes number) (slice_get new.nodes number)

-- The server has the share closed under this digest, which is that of its bytes. Without a clash
-- they are the bytes of whatever share has this digest.
pub record KeepsShare {S L : Type 0} (shelf : S → Shelf) (grid : GridState S L) (number : ℕ)
    (id : ShareId) (digest : List ℕ) : Type 0 where
  pub node : NodeState S L
  pub at : IsNode grid number node
  pub share : ClosedShare
  pub found : closed_at id (shelf node.server.store).closed ≡ Some share
  pub has : share.digest ≡ digest
  pub digest_of : share_digest share.bytes ≡ digest
  pub exactly : (inputs : List (List ℕ)) (bytes : List ℕ) → HasNoClash inputs
      → Contains inputs (tagged_input WholeShare share.bytes)
      → Contains inputs (tagged_input WholeShare bytes) → share_digest bytes ≡ digest
      → share.bytes ≡ bytes

-- Of each pair that counts as acknowledged in a record the server keeps the share.
abbrev pub AcknowledgedAreKept : {S L : Type 0} → (S → Shelf) → Goal → List Request
    → GridState S L → Type 0
AcknowledgedAreKept shelf goal entries grid = (pair : Pair)
    → Contains (acked_pairs goal entries) pair → KeepsShare shelf grid pair.0
    (record { index = goal.cap.storage_index; share = pair.1 })
    (slice_index_or goal.digests pair.1 [])
