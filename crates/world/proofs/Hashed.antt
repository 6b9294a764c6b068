-- What is among the hash inputs of a world.
use Rattle.std.proofs.Common.{◌≡◌, ℕ, List, Some, Contains, refl, subst, sym}
use Rattle.std.specs.Prelude.{slice_get}
use Rattle.tagged_hash.specs.TaggedHash.{tagged_input}
use Rattle.tagged_hash.specs.declared.tag.Tag.TheVariants.{WholeShare}
use Rattle.wire.specs.declared.message.ShareId.{ShareId}
use Rattle.share_store.specs.Memory.{MemoryState}
use Rattle.share_store.specs.Shelf.{closed_at}
use Rattle.share_store.specs.declared.shelf.ClosedShare.{ClosedShare}
use Rattle.server_core.specs.ServerState.{ServerState}
use Rattle.download_core.specs.Hashed as download
use Rattle.download_core.specs.State.{DownloadState}
use Rattle.file_encoding.specs.Inputs.{encoding_inputs}
use Rattle.file_encoding.specs.Params.{UploadParameters, parameters_of}
use Rattle.world_operations.specs.declared.operation.Operation.{Operation}
use Rattle.world_operations.specs.declared.task.Task.{Task}
use Rattle.world_operations.specs.declared.task.Task.TheVariants.{Downloading}
use Rattle.world_operations.specs.Given.{IsHashedBy}
use Rattle.world_operations.specs.Jobs.{HasOneKey, Uploads}
use Rattle.world_operations.proofs.Positions.{member_at}
use Rattle.world.specs.State.{WorldState}
use Rattle.world.specs.Headline.{IsHashed, closed, downloaded, started}

-- all that an upload's encoding hashes
pub encoding_among : (w : WorldState) (i : ℕ) (op : Operation) (file secret : List ℕ) (p : UploadParameters) (x : List ℕ)
    → slice_get w.operations i ≡ Some op → Uploads op.job file secret p → HasOneKey op.job → Contains (encoding_inputs file secret (parameters_of p)) x → IsHashed w x
encoding_among w i op file secret p x at uploads one_key c = started op file secret p (member_at w.operations i op at) uploads one_key c

-- a share that is closed at an honest server
pub share_among : (w : WorldState) (node : ℕ) (m : ServerState MemoryState) (id : ShareId) (c : ClosedShare)
    → slice_get w.servers node ≡ Some m → closed_at id m.store.shelf.closed ≡ Some c → IsHashed w (tagged_input WholeShare c.bytes)
share_among w node m id c at found =
    closed m (member_at w.servers node m at) record { id = id; share = c; found = found; is = refl }

-- what a download hashed for what it found
pub download_among : (w : WorldState) (i : ℕ) (op : Operation) (d : DownloadState) (x : List ℕ)
    → slice_get w.operations i ≡ Some op → op.task ≡ Downloading d → download.IsHashed d x → IsHashed w x
download_among w i op d x at task h = downloaded op (member_at w.operations i op at) (subst (λ (t : Task). IsHashedBy t x) (sym task) h)
