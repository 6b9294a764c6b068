-- What the machine of an upload's job is for, whether its bytes were given or are read.
use Rattle.std.proofs.Common.{◌≡◌, ℕ, List, sym, subst, ap, ◌∙◌}
use Rattle.file_encoding.specs.Params.{UploadParameters}
use Rattle.file_upload.specs.Prepared.{goal_of, prepared_of}
use Rattle.upload_core.specs.Sending as upload_sends
use Rattle.world_operations.specs.declared.job.Job.{Job}
use Rattle.world_operations.specs.declared.job.Job.TheVariants.{Changing, Upload}
use Rattle.world_operations.specs.declared.task.Task.{Task}
use Rattle.world_operations.specs.declared.task.Task.TheVariants.{Uploading, Downloading, Checking, Gone}
use Rattle.world_operations.specs.declared.upload_pieces.UploadPieces.{UploadPieces}
use Rattle.world_operations.specs.Jobs.{HasOneKey, IsFor, IsUpload, Uploads, streamed, whole}

-- the goal is that of the file's shares
pub record IsForFile (job : Job) (file secret : List ℕ) (p : UploadParameters) (u : upload_sends.Uploading UploadPieces) : Type 0 where
  pub goal : u.course.goal ≡ goal_of (prepared_of file secret p)
  pub happy_is : u.course.happy ≡ p.happy
  pub may : IsUpload file secret p
  pub one_key : HasOneKey job

pub for_file : (job : Job) (file secret : List ℕ) (p : UploadParameters) (u : upload_sends.Uploading UploadPieces) → Uploads job file secret p → IsFor job (Uploading u) → IsForFile job file secret p u
for_file job file secret p u (whole is) h =
    let k : IsFor (Upload file secret p) (Uploading u) = subst (λ (j : Job). IsFor j (Uploading u)) is h in
    record { goal = k.0; happy_is = k.1; may = k.2; one_key = subst HasOneKey (sym is) tt }
for_file job file secret p u (streamed one other after is file_is) h =
    let k : IsFor (Changing one other after secret p) (Uploading u) = subst (λ (j : Job). IsFor j (Uploading u)) is h in
    record {
      goal = k.0 ∙ ap (λ (f : List ℕ). goal_of (prepared_of f secret p)) (sym file_is);
      happy_is = k.1;
      may = subst (λ (f : List ℕ). IsUpload f secret p) (sym file_is) k.2;
      one_key = subst HasOneKey (sym is) k.3;
    }

-- an upload that was started could start
may_whole : (file secret : List ℕ) (p : UploadParameters) (task : Task) → IsFor (Upload file secret p) task → IsUpload file secret p
may_whole file secret p (Uploading u) h = h.2
may_whole file secret p (Gone number) h = h
may_whole file secret p (Downloading d) h = absurd h
may_whole file secret p (Checking c) h = absurd h

pub could_start : (job : Job) (file secret : List ℕ) (p : UploadParameters) (task : Task) → Uploads job file secret p → IsFor job task → IsUpload file secret p
could_start job file secret p task (whole is) h = may_whole file secret p task (subst (λ (j : Job). IsFor j task) is h)
could_start job file secret p (Uploading u) (streamed one other after is file_is) h = (for_file job file secret p u (streamed one other after is file_is) h).may
could_start job file secret p (Gone number) (streamed one other after is file_is) h =
    let k : IsFor (Changing one other after secret p) (Gone number) = subst (λ (j : Job). IsFor j (Gone number)) is h in subst (λ (f : List ℕ). IsUpload f secret p) (sym file_is) k
could_start job file secret p (Downloading d) (streamed one other after is file_is) h =
    let k : IsFor (Changing one other after secret p) (Downloading d) = subst (λ (j : Job). IsFor j (Downloading d)) is h in absurd k
could_start job file secret p (Checking c) (streamed one other after is file_is) h =
    let k : IsFor (Changing one other after secret p) (Checking c) = subst (λ (j : Job). IsFor j (Checking c)) is h in absurd k
