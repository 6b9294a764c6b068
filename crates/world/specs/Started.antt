-- The cap of an upload that was started, downloads and checks of it, and what they hashed.
use Rattle.std.specs.Prelude.{◌≡◌, ℕ, ◌<◌, List, Some, Contains, slice_get, slice_index}
use Rattle.tagged_hash.specs.Clash.{HasNoClashIn}
use Rattle.cap_text.specs.Cap.{ReadCapValue, VerifyCapValue}
use Rattle.file_encoding.specs.Params.{UploadParameters}
use Rattle.download_core.specs.State.{DownloadState}
use Rattle.checker.specs.State.{CheckState}
use Rattle.world_operations.specs.declared.operation.Operation.{Operation}
use Rattle.world_operations.specs.declared.task.Task.TheVariants.{Checking, Downloading}
use Rattle.world_operations.specs.Given.{IsTestedBy}
use Rattle.world_operations.specs.Jobs.{HasOneKey, Uploads}
use Rattle.world.specs.Headline.{IsHashed}
use Rattle.world.specs.State.{WorldState}

-- ---- what else was hashed

-- What the headline speaks of, and what downloads and checks hashed to test what they read: blocks,
-- nodes of the trees that tell of them, and the good shares of checks.
pub data IsHashedOrTested (w : WorldState) (input : List ℕ) : Type 0 where
  hashed : IsHashed w input → IsHashedOrTested w input
  tested : (op : Operation) → Contains w.operations op → IsTestedBy op.task input
      → IsHashedOrTested w input

-- no two of these clash
abbrev pub HasNoClashInTests : WorldState → Type 0
HasNoClashInTests w = HasNoClashIn (IsHashedOrTested w)

-- ---- a started upload, and downloads and checks of its cap

-- The upload of this file was started, whatever became of it. Of a source that changes, both passes
-- had one key.
pub record IsStarted (w : WorldState) (file secret : List ℕ) (p : UploadParameters) : Type 0 where
  pub number : ℕ
  pub operation : Operation
  pub at : slice_get w.operations number ≡ Some operation
  pub uploads : Uploads operation.job file secret p
  pub one_key : HasOneKey operation.job
  pub bytes : (i : ℕ) → slice_index file i < 256

-- a download of this cap, whatever became of it
pub record IsDownloadOf (w : WorldState) (cap : ReadCapValue) (d : DownloadState) : Type 0 where
  pub number : ℕ
  pub operation : Operation
  pub at : slice_get w.operations number ≡ Some operation
  pub task : operation.task ≡ Downloading d
  pub cap_is : d.cap ≡ cap

-- a check of this verify cap, whatever became of it
pub record IsCheckOf (w : WorldState) (cap : VerifyCapValue) (c : CheckState) : Type 0 where
  pub number : ℕ
  pub operation : Operation
  pub at : slice_get w.operations number ≡ Some operation
  pub task : operation.task ≡ Checking c
  pub cap_is : c.cap ≡ cap
