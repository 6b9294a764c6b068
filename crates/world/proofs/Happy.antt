-- What a consistent world says of uploads: Happy names acknowledged pairs, as many as were wanted, no server and no share twice.
use Rattle.std.proofs.Common.{◌≡◌, ℕ, ◌≤◌, List, length, ap, subst}
use Rattle.placement.specs.Matching.{IsMatching, Pair}
use Rattle.file_encoding.specs.Params.{UploadParameters}
use Rattle.upload_core.specs.declared.status.UploadStatus.TheVariants.{Happy}
use Rattle.upload_core.specs.State.{Goal, UploadState}
use Rattle.upload_core.specs.Acknowledged.{acked_pairs}
use Rattle.upload_core.specs.Right.{IsRight, has_ended}
use Rattle.upload_core.specs.Rounds.{EndsAs, IsHappy}
use Rattle.upload_core.specs.Sending as upload_sends
use Rattle.world_operations.specs.declared.operation.Operation.{Operation}
use Rattle.world_operations.specs.Jobs.{IsFor}
use Rattle.world_operations.specs.declared.upload_pieces.UploadPieces.{UploadPieces}
use Rattle.world_operations.specs.Tasks.{IsRightTask}
use Rattle.world_operations.proofs.Uploads.{IsForFile, for_file}
use Rattle.world.specs.State.{WorldState}
use Rattle.world.specs.Consistent.{IsConsistent}
use Rattle.world.specs.Headline.{HappyIsMatched, IsUploadOf}

abbrev pub Up : Type 0
Up = upload_sends.Uploading UploadPieces

-- an upload's machine is for its job
pub for_upload : (w : WorldState) (number : ℕ) (file secret : List ℕ) (p : UploadParameters) (op : Operation) (u : Up) → IsConsistent w → IsUploadOf w number file secret p op u
    → IsForFile op.job file secret p u
for_upload w number file secret p op u c of = for_file op.job file secret p u of.uploads (subst (IsFor op.job) of.task (c.fine number op of.at).started)

right_upload : (w : WorldState) (number : ℕ) (file secret : List ℕ) (p : UploadParameters) (op : Operation) (u : Up) → IsConsistent w → IsUploadOf w number file secret p op u → IsRight u.course
right_upload w number file secret p op u c of = subst IsRightTask of.task (c.fine number op of.at).right

ends_happy : (u : UploadState) (pairs : List Pair) → IsRight u → u.status ≡ Happy pairs → IsHappy u.goal u.happy u.requests.entries pairs
ends_happy u pairs right e = subst (EndsAs u.goal u.happy u.requests.entries) e (right.over (ap has_ended e))

pub happy_is_matched : (w : WorldState) → IsConsistent w → HappyIsMatched w
happy_is_matched w c file secret p pairs up =
    let u : UploadState = up.upload.course in
    let is_for = for_upload w up.number file secret p up.operation up.upload c up.upload_of in
    let ends = ends_happy u pairs (right_upload w up.number file secret p up.operation up.upload c up.upload_of) up.status in
    record {
      matching = subst (λ (g : Goal). IsMatching (acked_pairs g u.requests.entries) pairs) is_for.goal ends.largest.matching;
      enough = subst (λ (n : ℕ). n ≤ length pairs) is_for.happy_is ends.enough;
    }
