-- How a repair begins, of shares that a check found good.
use Rattle.std.specs.Prelude.{◌≡◌, ℕ, List}
use Rattle.cap_text.specs.Cap.{VerifyCapValue}
use Rattle.file_encoding.specs.Reading.{LacksShares}
use Rattle.file_encoding.specs.Regenerated.{AreRegenerated, CannotRegenerate}
use Rattle.file_upload.specs.Shares.{shares_goal}
use Rattle.upload_core.specs.declared.status.ServerInfo.{ServerInfo}
use Rattle.upload_core.specs.Moves as upload
use Rattle.upload_core.specs.Sending as upload_sends
use Rattle.world_operations.specs.declared.job.Job.{Job}
use Rattle.world_operations.specs.declared.job.Job.TheVariants.{Repair, NoRepair}
use Rattle.world_operations.specs.declared.job.Unmade.TheVariants.{NotEnoughShares, Inconsistent}
use Rattle.world_operations.specs.declared.upload_pieces.UploadPieces.{UploadPieces}
use Rattle.world_operations.specs.declared.upload_pieces.UploadPieces.TheVariants.{Whole}
use Rattle.world_operations.specs.declared.task.Task.{Task}
use Rattle.world_operations.specs.declared.task.Task.TheVariants.{Uploading, Gone}

-- A repair begins: it uploads the shares that are made anew of these strings, by their numbers; or
-- it makes none, and is over.
pub data BeginsRepair (cap : VerifyCapValue) (happy : ℕ) (numbers : List ℕ)
    (strings : List (List ℕ)) (servers : List ServerInfo) (session now : ℕ) (job : Job)
    (task : Task) : Type 0 where
  makes : (shares : List (List ℕ)) (u : upload_sends.Uploading UploadPieces)
      → AreRegenerated cap numbers strings shares → job ≡ Repair cap happy → task ≡ Uploading u
      → upload.Begins (shares_goal cap shares) happy servers session now u.course
      → u.pieces ≡ Whole shares
      → BeginsRepair cap happy numbers strings servers session now job task
  lacks : LacksShares cap numbers strings → job ≡ NoRepair cap NotEnoughShares
      → task ≡ Gone session
      → BeginsRepair cap happy numbers strings servers session now job task
  contradicts : CannotRegenerate cap numbers strings → job ≡ NoRepair cap Inconsistent
      → task ≡ Gone session
      → BeginsRepair cap happy numbers strings servers session now job task
