-- Repairs of a world, and what was hashed of the shares that they made.
use Rattle.std.specs.Prelude.{◌≡◌, ℕ, ◌<◌, List, [], ◌∷◌, Some, length, slice_get}
use Rattle.std.specs.Prelude.{slice_index_or, Contains}
use Rattle.tagged_hash.specs.TaggedHash.{tagged_input}
use Rattle.tagged_hash.specs.declared.tag.Tag.TheVariants.{WholeShare}
use Rattle.cap_text.specs.Cap.{VerifyCapValue}
use Rattle.ueb.specs.Shape.{Contents}
use Rattle.share_layout.specs.Share.{Sections}
use Rattle.share_verify.specs.Inputs.{share_inputs}
use Rattle.share_verify.specs.Verify.{IsSound}
use Rattle.placement.specs.Matching.{Pair}
use Rattle.upload_core.specs.declared.status.UploadStatus.TheVariants.{Happy}
use Rattle.upload_core.specs.Sending as upload_sends
use Rattle.world_operations.specs.declared.job.Job.TheVariants.{Repair}
use Rattle.world_operations.specs.declared.operation.Operation.{Operation}
use Rattle.world_operations.specs.declared.task.Task.TheVariants.{Uploading}
use Rattle.world_operations.specs.declared.upload_pieces.UploadPieces.{UploadPieces}
use Rattle.world_operations.specs.declared.upload_pieces.UploadPieces.TheVariants.{Whole}
use Rattle.world.specs.State.{WorldState}

-- this operation is a repair of a cap's file, for so many servers at least, that made shares
pub record IsRepairOf (w : WorldState) (number : ℕ) (cap : VerifyCapValue) (happy : ℕ)
    (operation : Operation) (upload : upload_sends.Uploading UploadPieces) : Type 0 where
  pub at : slice_get w.operations number ≡ Some operation
  pub job : operation.job ≡ Repair cap happy
  pub task : operation.task ≡ Uploading upload

-- a repair that made these shares answered Happy with these pairs
pub record IsRepaired (w : WorldState) (cap : VerifyCapValue) (happy : ℕ)
    (shares : List (List ℕ)) (pairs : List Pair) : Type 0 where
  pub number : ℕ
  pub operation : Operation
  pub upload : upload_sends.Uploading UploadPieces
  pub repair_of : IsRepairOf w number cap happy operation upload
  pub shares_are : upload.pieces ≡ Whole shares
  pub status : upload.course.status ≡ Happy pairs

-- of one of these shares, which passes: itself whole, and what is hashed where it is checked
pub record IsHashedOf (cap : VerifyCapValue) (shares : List (List ℕ)) (input : List ℕ)
    : Type 0 where
  pub number : ℕ
  pub below : number < length shares
  pub contents : Contents
  pub sections : Sections
  pub sound : IsSound cap number (slice_index_or shares number []) contents sections
  pub among : Contains (tagged_input WholeShare (slice_index_or shares number [])
      ∷ share_inputs contents number sections) input

-- of the shares that a repair made
pub record IsHashedByRepair (operation : Operation) (input : List ℕ) : Type 0 where
  pub cap : VerifyCapValue
  pub happy : ℕ
  pub upload : upload_sends.Uploading UploadPieces
  pub job : operation.job ≡ Repair cap happy
  pub task : operation.task ≡ Uploading upload
  pub shares : List (List ℕ)
  pub shares_are : upload.pieces ≡ Whole shares
  pub hashed : IsHashedOf cap shares input
