-- The extension block that the beginning of a share leads to.
use Rattle.std.specs.Prelude.{◌⊎◌, ℕ, List}
use Rattle.cap_text.specs.Cap.{VerifyCapValue}
use Rattle.share_verify.specs.CapBlock.{IsUebFor}
use Rattle.share_reading.specs.Opening.{Advances, next_length, next_offset}
use Rattle.share_reading.specs.OpeningReads.{Brought, IsLedToBy}
use Rattle.share_reading.specs.Refusal.{IsRefused}
use Rattle.share_reading.specs.declared.error.OpeningError.{OpeningError}
use Rattle.share_reading.specs.declared.opening.Opening.{Opening}
use Rattle.share_reading.specs.declared.opening.Progress.TheVariants as progress
use Rattle.share_source.specs.Reads.{Brings, Fails, Gives}
use Rattle.share_source.specs.declared.block.ReadBlock.{ReadBlock}
use Rattle.share_source.specs.declared.block.Step.{Step}
use Rattle.share_source.specs.declared.block.Step.TheVariants.{Next, Done, Refused}

-- it is the extension block of the cap's file
abbrev pub IsReadBlock : VerifyCapValue → ReadBlock → Type 0
IsReadBlock cap block = IsUebFor cap block.bytes.items block.ueb

-- the read that an opening asks for next failed, or brought bytes that are refused
abbrev pub IsStopped : {B : Type 0} → Gives B → Fails B → VerifyCapValue → ℕ → Opening → B → B
    → Type 0
IsStopped gives fails cap position opening old new =
    fails old position (next_offset opening) (next_length opening) new
    ⊎ ((bytes : List ℕ) × (error : OpeningError)
    × gives old position (next_offset opening) bytes new × IsRefused cap opening bytes error)

-- No extension block was read: reads of the share led to an opening, and there they stopped.
pub record IsNoBlock {B : Type 0} (gives : Gives B) (fails : Fails B) (cap : VerifyCapValue)
    (position : ℕ) (old new : B) : Type 0 where
  pub reads : List Brought
  pub mid : B
  pub brings : Brings gives position old reads mid
  pub opening : Opening
  pub led : IsLedToBy reads opening
  pub stopped : IsStopped gives fails cap position opening mid new

-- ---- words of private clauses

-- what comes of the read that an opening asks for next
abbrev pub Goes : {B : Type 0} → Gives B → Fails B → VerifyCapValue → ℕ → Opening → B → Step → B
    → Type 0
Goes gives fails cap position opening old (Next next) new =
    (bytes : List ℕ) × gives old position (next_offset opening) bytes new
    × Advances cap opening bytes (progress.Next next)
Goes gives fails cap position opening old (Done block) new = IsReadBlock cap block
Goes gives fails cap position opening old Refused new =
    IsStopped gives fails cap position opening old new
