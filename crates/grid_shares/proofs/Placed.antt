-- What the end of an upload comes to.
use Rattle.std.proofs.Common.{◌≡◌, ◌≤◌, ℕ, List, [], map, Result, Ok, IfOk, sym, subst, ◌∙◌}
use Rattle.std.proofs.lemmas.Result.{IfOk-weaker}
use Rattle.request_record.specs.Operations.{OperationCalls}
use Rattle.upload_core.specs.Moves.{Begins}
use Rattle.upload_core.specs.Ready.{Ready}
use Rattle.upload_core.specs.Right.{IsRight}
use Rattle.upload_core.specs.Sending.{Uploading}
use Rattle.upload_core.specs.declared.status.UploadStatus.{UploadStatus}
use Rattle.upload_core.specs.declared.status.UploadStatus.TheVariants.{Running, Happy, Unhappy, Failed}
use Rattle.local_grid.specs.Outside.{OutsideCalls}
use Rattle.carried_operations.specs.Stored.{IsCarried, IsStored}
use Rattle.carried_operations.proofs.Storing.{stored}
use Rattle.grid_rules.specs.Ending.{ending_of}
use Rattle.grid_faults.specs.Servers.{server_of}
use Rattle.grid_faults.specs.declared.fault.Fault.{Fault}
use Rattle.std.specs.List.{range_with_len}
use Rattle.std.proofs.Common.{Bool}
use Rattle.cap_text.specs.Cap.{ReadCapValue}
use Rattle.grid_servers.specs.Grids.{FolderGridState, GridCalls}
use Rattle.grid_servers.specs.Opened.{at_once}
use Rattle.grid_shares.specs.Placing.{ArePlaced, AreUploaded}
use Rattle.file_encoding.specs.Params.{UploadParameters}
use Rattle.file_upload.specs.Prepared.{Prepared, prepared_of, upload_of}
use Rattle.file_upload.specs.declared.prepared.FileUpload.{FileUpload}
use Rattle.file_upload.specs.declared.prepared.FileUpload.TheVariants.{Shares}
use Rattle.file_upload.specs.Ready.{goal_of, ready_stream}
use Rattle.file_upload.specs.Streamed.{Streaming}
use Rattle.upload_core.specs.State.{Goal, with_ahead}
use Rattle.grid_shares.specs.Puts.{IsPutOf, IsToldOf, whole_calls}
use Rattle.grid_shares.specs.declared.putting.PutFile.{PutFile}
use Rattle.grid_shares.specs.declared.placing.Stored.{Stored}

module _ {P G : Type 0} (operation : OperationCalls (Uploading P)) (calls : OutsideCalls G) (begun ended : Uploading P) (old new : G) where
  by_status : (wanted : ℕ) (status : UploadStatus) → status ≡ ended.course.status → IsCarried operation calls begun old ended new → IsRight ended.course
      → IfOk (ending_of wanted status) (λ happiness. IsStored operation calls begun old new happiness)
  by_status wanted Running is c right = tt
  by_status wanted (Happy pairs) is c right = stored operation calls begun ended old new pairs c right (sym is)
  by_status wanted (Unhappy few blocking) is c right = tt
  by_status wanted (Failed fault) is c right = tt

  -- a happiness that was reached
  reached : (r : Result ℕ Fault) (wanted : ℕ) (status : UploadStatus) → r ≡ ending_of wanted status → status ≡ ended.course.status → IsCarried operation calls begun old ended new → IsRight ended.course
      → IfOk r (λ happiness. IsStored operation calls begun old new happiness)
  reached r wanted status e is c right = subst (λ (x : Result ℕ Fault). IfOk x (λ happiness. IsStored operation calls begun old new happiness)) (sym e) (by_status wanted status is c right)

module _ {P N : Type 0} (operation : OperationCalls (Uploading P)) (calls : GridCalls N) (before : FolderGridState N) (session : ℕ) (servers : List ℕ) (made : Ready P) where
  -- shares whose upload was carried to its end
  pub uploaded : (ahead : ℕ) (after : FolderGridState N) (begun ended : Uploading P) (given now : ℕ) (r : Result ℕ Fault) (wanted : ℕ) (status : UploadStatus)
      → r ≡ ending_of wanted status → status ≡ ended.course.status → IsRight ended.course → given ≡ session → now ≡ calls.clock before
      → Begins (with_ahead ahead made.goal) made.happy (map server_of servers) given now begun.course → begun.pieces ≡ made.pieces → ahead ≤ at_once before.remotes → IsCarried operation calls begun before ended after
      → IfOk r (AreUploaded operation calls before session servers made)
  uploaded ahead after begun ended given now r wanted status e same right own clock begins pieces few carried =
      IfOk-weaker r _ _ (λ happiness stored. record {
        begun = begun;
        ahead = ahead;
        few = few;
        begins = subst (λ (s : ℕ). Begins (with_ahead ahead made.goal) made.happy (map server_of servers) s (calls.clock before) begun.course) own
            (subst (λ (n : ℕ). Begins (with_ahead ahead made.goal) made.happy (map server_of servers) given n begun.course) clock begins);
        pieces = pieces;
        after = after;
        stored = stored;
      })
      (reached operation calls begun ended before after r wanted status e same carried right)

  -- over the same grid
  pub begun_at : (r : Result ℕ Fault) (first : FolderGridState N) → before ≡ first → IfOk r (AreUploaded operation calls before session servers made) → IfOk r (AreUploaded operation calls first session servers made)
  begun_at r first same u = subst (λ (b : FolderGridState N). IfOk r (AreUploaded operation calls b session servers made)) same u

  -- the same servers
  pub used_as : (happiness : ℕ) (used : List ℕ) → servers ≡ used → AreUploaded operation calls before session servers made happiness → AreUploaded operation calls before session used made happiness
  used_as happiness used same u = subst (λ (s : List ℕ). AreUploaded operation calls before session s made happiness) same u

module _ {P N : Type 0} (operation : OperationCalls (Uploading P)) (calls : GridCalls N) (grid servers : List ℕ) (made : Ready P) where
  -- what is told of shares that were placed on the first servers
  pub put_of : (count : ℕ) (kept mend : Bool) (used : List ℕ) (s : Stored) (cap : ReadCapValue) → used ≡ range_with_len 0 count → ArePlaced operation calls grid kept mend [] used made s
      → (outcome : PutFile) → IsToldOf cap s outcome → IsPutOf operation calls grid kept mend made cap outcome
  put_of count kept mend used s cap first placed outcome told = record {
    count = count;
    stored = s;
    placed = subst (λ (x : List ℕ). ArePlaced operation calls grid kept mend [] x made s) first placed;
    told = told;
  }

same_shares : (p q : Prepared) → Shares p ≡ Shares q → p ≡ q
same_shares p q e = cc

-- what a file was encoded as, by the secret as it was given
pub encoded_as : (r : Result FileUpload Fault) (encoded : FileUpload) (file given secret : List ℕ) (p : UploadParameters) → r ≡ Ok encoded → given ≡ secret
    → IfOk r (λ u. u ≡ Shares (prepared_of file given p)) → encoded ≡ Shares (prepared_of file secret p)
encoded_as r encoded file given secret p was same is =
    subst (λ (s : List ℕ). encoded ≡ Shares (prepared_of file s p)) same (subst (λ (x : Result FileUpload Fault). IfOk x (λ u. u ≡ Shares (prepared_of file given p))) was is)

module _ {N : Type 0} (calls : GridCalls N) (grid : List ℕ) (kept mend : Bool) where
  -- what is told of the shares of a file that was encoded whole
  pub held_put : (encoded : FileUpload) (upload p : Prepared) (m : Ready (List (List ℕ))) (cap : ReadCapValue) → encoded ≡ Shares upload → encoded ≡ Shares p → m ≡ upload_of upload → cap ≡ upload.cap
      → (outcome : PutFile) → IsPutOf whole_calls calls grid kept mend m cap outcome → IsPutOf whole_calls calls grid kept mend (upload_of p) p.cap outcome
  held_put encoded upload p m cap is same made own outcome put =
      subst (λ (q : Prepared). IsPutOf whole_calls calls grid kept mend (upload_of q) q.cap outcome) (same_shares upload p (sym is ∙ same))
      (subst (λ (x : ReadCapValue). IsPutOf whole_calls calls grid kept mend (upload_of upload) x outcome) own
      (subst (λ (x : Ready (List (List ℕ))). IsPutOf whole_calls calls grid kept mend x cap outcome) made put))

  -- those of a file that was read twice
  pub streamed_put : {S : Type 0} (operation : OperationCalls (Uploading (Streaming S))) (m : Ready (Streaming S)) (cap : ReadCapValue) (happy : ℕ)
      → m.goal ≡ goal_of m.pieces.kept → m.happy ≡ happy → cap ≡ m.pieces.kept.cap
      → (outcome : PutFile) → IsPutOf operation calls grid kept mend m cap outcome → IsPutOf operation calls grid kept mend (ready_stream m.pieces happy) m.pieces.kept.cap outcome
  streamed_put {S = S} operation m cap happy goal wanted own outcome put =
      subst (λ (x : ReadCapValue). IsPutOf operation calls grid kept mend (ready_stream m.pieces happy) x outcome) own
      (subst (λ (n : ℕ). IsPutOf operation calls grid kept mend (record { pieces = m.pieces; goal = goal_of m.pieces.kept; happy = n }) cap outcome) wanted
      (subst (λ (x : Goal). IsPutOf operation calls grid kept mend (record { pieces = m.pieces; goal = x; happy = m.happy }) cap outcome) goal put))
