-- What an operation may be started for, and what it is then for.
use Rattle.std.specs.Prelude.{◌≡◌, ℕ, ◌≤◌, List, length, true, ⊤}
use Rattle.sources.specs.Texts.{Changing as TwoTexts, read_once, text_of}
use Rattle.cap_text.specs.Cap.{VerifyCapValue}
use Rattle.ueb.specs.Limits.{min_file_size}
use Rattle.file_encoding.specs.Params.{AreChosen, IsEncodable, UploadParameters, parameters_of}
use Rattle.file_encoding.specs.RemadeLaws.{ArePassing}
use Rattle.file_streaming.specs.Prepared.{key_for}
use Rattle.file_upload.specs.Prepared.{goal_of, prepared_of}
use Rattle.file_upload.specs.Shares.{MayWant, shares_goal}
use Rattle.upload_core.specs.Sending as upload_sends
use Rattle.world_operations.specs.declared.job.Job.{Job}
use Rattle.world_operations.specs.declared.job.Job.TheVariants.{Upload, Download, Check}
use Rattle.world_operations.specs.declared.job.Job.TheVariants.{Changing, Repair, NoRepair}
use Rattle.world_operations.specs.declared.upload_pieces.UploadPieces.{UploadPieces}
use Rattle.world_operations.specs.declared.upload_pieces.UploadPieces.TheVariants.{Whole}
use Rattle.world_operations.specs.declared.task.Task.{Task}
use Rattle.world_operations.specs.declared.task.Task.TheVariants.{Uploading, Downloading}
use Rattle.world_operations.specs.declared.task.Task.TheVariants.{Checking, Gone}

-- ---- a source that changes

-- two texts: the first bytes that it hands out, so many, are of the one, later ones of the other
abbrev pub changing : List ℕ → List ℕ → ℕ → TwoTexts
changing file other after = record { file = file; other = other; left = after }

-- what a first pass over it brings, and a second
abbrev pub first_read : List ℕ → List ℕ → ℕ → List ℕ
first_read file other after = text_of (changing file other after)

abbrev pub second_read : List ℕ → List ℕ → ℕ → List ℕ
second_read file other after = text_of (read_once (changing file other after))

-- ---- which file a job uploads

-- the bytes that it was given, or what the second pass over its source brings
pub data Uploads (job : Job) (file secret : List ℕ) (p : UploadParameters) : Type 0 where
  whole : job ≡ Upload file secret p → Uploads job file secret p
  streamed : (one other : List ℕ) (after : ℕ) → job ≡ Changing one other after secret p
      → file ≡ second_read one other after → Uploads job file secret p

-- both passes over its source have one key
abbrev pub HasOneKey : Job → Type 0
HasOneKey (Changing file other after secret p) =
    key_for (first_read file other after) secret (parameters_of p)
    ≡ key_for (second_read file other after) secret (parameters_of p)
HasOneKey job = ⊤

-- ---- what may be started

-- What an upload may be started with: a file whose cap is not literal, a secret that is not too
-- long, and parameters in their ranges, by which the file has an encoding.
pub record IsUpload (file secret : List ℕ) (p : UploadParameters) : Type 0 where
  pub not_small : min_file_size ≤ length file
  pub secret_short : length secret ≤ 64
  pub chosen : AreChosen p.needed p.happy p.total p.max_segment
  pub encodable : IsEncodable (length file) p

-- The two texts of a source that changes have one length. A range of a download lies in its file. A
-- repair is not started as a job: its machine begins by
-- what a check found.
abbrev pub MayStart : Job → Type 0
MayStart (Upload file secret p) = IsUpload file secret p
MayStart (Changing file other after secret p) =
    IsUpload file secret p × (length other ≡ length file)
MayStart (Download cap from to) = (from ≤ to) × (to ≤ cap.size)
MayStart (Check cap) = ⊤
MayStart (Repair cap happy) = ⊥
MayStart (NoRepair cap why) = ⊥

-- a repair's machine is the upload of its shares, which pass every check for its cap
pub record IsRepair (cap : VerifyCapValue) (happy : ℕ) (u : upload_sends.Uploading UploadPieces)
    : Type 0 where
  pub shares : List (List ℕ)
  pub pieces : u.pieces ≡ Whole shares
  pub goal : u.course.goal ≡ shares_goal cap shares
  pub happy_is : u.course.happy ≡ happy
  pub may : MayWant cap happy
  pub passing : ArePassing cap shares

-- An operation's machine is for its job. A check keeps the bytes of the shares that it reads, as a
-- repair of what it found may follow. Of an upload whose machine is gone there is left that it was
-- one that may start, and of another operation nothing.
abbrev pub IsFor : Job → Task → Type 0
IsFor (Upload file secret p) (Uploading u) =
    (u.course.goal ≡ goal_of (prepared_of file secret p)) × (u.course.happy ≡ p.happy)
    × IsUpload file secret p
IsFor (Upload file secret p) (Gone number) = IsUpload file secret p
IsFor (Upload file secret p) task = ⊥
IsFor (Changing one other after secret p) (Uploading u) =
    let file = second_read one other after in
    (u.course.goal ≡ goal_of (prepared_of file secret p)) × (u.course.happy ≡ p.happy)
    × IsUpload file secret p × HasOneKey (Changing one other after secret p)
IsFor (Changing one other after secret p) (Gone number) =
    IsUpload (second_read one other after) secret p
IsFor (Changing one other after secret p) task = ⊥
IsFor (Download cap from to) (Downloading d) = (d.cap ≡ cap) × (d.from ≡ from) × (d.to ≡ to)
IsFor (Download cap from to) (Gone number) = ⊤
IsFor (Download cap from to) task = ⊥
IsFor (Check cap) (Checking c) = (c.cap ≡ cap) × (c.keeps ≡ true)
IsFor (Check cap) (Gone number) = ⊤
IsFor (Check cap) task = ⊥
IsFor (Repair cap happy) (Uploading u) = IsRepair cap happy u
IsFor (Repair cap happy) (Gone number) = ⊤
IsFor (Repair cap happy) task = ⊥
IsFor (NoRepair cap why) (Gone number) = ⊤
IsFor (NoRepair cap why) task = ⊥
