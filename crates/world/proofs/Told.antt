-- An acknowledgement that an honest server sent answers the very request that it names, and what it tells is so: sessions and numbers are
-- positions, so nothing else is needed to find the request.
use Rattle.std.proofs.Common.{◌≡◌, ℕ, ◌<◌, List, length, false, Some, sym, subst, ap, ◌∙◌, arith}
use Rattle.std.specs.Prelude.{slice_get}
use Rattle.wire.specs.declared.message.Body.{Body}
use Rattle.wire.specs.declared.message.Message.{Message}
use Rattle.request_record.specs.declared.requests.Asked.{Asked}
use Rattle.request_record.specs.declared.requests.Request.{Request}
use Rattle.request_record.specs.Asking.{Spells}
use Rattle.share_store.specs.Memory.{MemoryState}
use Rattle.server_core.specs.ServerState.{ServerState}
use Rattle.server_core.specs.Sound.{Tells, is_request}
use Rattle.placement.specs.Matching.{Pair}
use Rattle.file_encoding.specs.Params.{UploadParameters}
use Rattle.world_operations.specs.declared.message.Sent.{Sent}
use Rattle.world_operations.specs.declared.operation.Operation.{Operation}
use Rattle.world_operations.specs.declared.task.Task.{Task}
use Rattle.world_operations.specs.declared.task.Task.TheVariants.{Gone, Uploading}
use Rattle.world_operations.specs.Follow.{IsRequestBy}
use Rattle.world_operations.proofs.Positions.{same_some}
use Rattle.world.specs.State.{WorldState, shelved}
use Rattle.world.specs.Consistent.{IsConsistent, IsRequestOf}
use Rattle.world.specs.Consistent.{asked, gone}
use Rattle.world.specs.Headline.{IsAcknowledgement}
use Rattle.world.proofs.Happy.{Up}

-- the request that an answer is to, and what the answer tells of the shares of a server
pub record IsToldOf (m : ServerState MemoryState) (index : List ℕ) (asks : Asked) (said : Body) : Type 0 where
  pub request : Message
  pub spelled : Spells index asks request.body
  pub tells : Tells (shelved m).store request.body said

-- an upload's machine is there
pub request_of : (op : Operation) (u : Up) (x : Sent) (m : Message) → op.task ≡ Uploading u → IsRequestOf op x m → IsRequestBy (Uploading u) x m
request_of op u x m task (gone number is) = absurd (clash number (sym is ∙ task)) where
  clash : (n : ℕ) → Gone n ≡ Uploading u → ⊥
  clash n e = cc
request_of op u x m task (asked node r) = subst (λ (t : Task). IsRequestBy t x m) task r

pub acknowledgement_told : (w : WorldState) → IsConsistent w → (file secret : List ℕ) (p : UploadParameters) (pair : Pair) (a : IsAcknowledgement w file secret p pair) (m : ServerState MemoryState)
    → slice_get w.servers a.frame.from ≡ Some m → is_request a.answer.body ≡ false → IsToldOf m a.upload.course.goal.cap.storage_index a.request.asked a.answer.body
acknowledgement_told w c file secret p pair a m at says =
    let j = c.justified a.frame m a.answer a.was_sent at a.spelled says in
    let fine = c.fine a.answer.session a.operation a.upload_of.at in
    let honest : j.frame.from < length w.servers = subst (λ (n : ℕ). n < length w.servers) (sym (j.from ∙ a.to)) fine.node in
    let r = c.recorded j.frame j.request j.was_sent honest j.spelled j.answers.asked in
    let op : r.operation ≡ a.operation =
    same_some r.operation a.operation (sym r.at ∙ ap (λ (n : ℕ). slice_get w.operations n) (sym j.answers.session) ∙ a.upload_of.at) in
    let task : r.operation.task ≡ Uploading a.upload = ap (λ (o : Operation). o.task) op ∙ a.upload_of.task in
    let by = request_of r.operation a.upload j.frame j.request task r.request in
    let position : by.position ≡ a.position = omega (arith, by.number, a.number, j.answers.number) in
    let request : by.request ≡ a.request =
    same_some by.request a.request (sym by.entry ∙ ap (λ (n : ℕ). slice_get a.upload.course.requests.entries n) position ∙ a.entry) in
    record {
      request = j.request;
      spelled = subst (λ (q : Request). Spells a.upload.course.goal.cap.storage_index q.asked j.request.body) request by.spelled;
      tells = j.answers.tells;
    }
