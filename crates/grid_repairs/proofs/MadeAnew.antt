-- Why no piece of shares that are made anew came, told apart.
use Rattle.std.proofs.Common.{◌≡◌, ℕ, Bool, true, false, List}
use Rattle.sources.specs.Source.{HasFailedMore}
use Rattle.file_upload.specs.RemadeStream.{GaveNoRemade, RemadeStreaming}
use Rattle.upload_core.specs.declared.pieces.PieceFault.{PieceFault}
use Rattle.upload_core.specs.declared.pieces.PieceFault.TheVariants.{OutOfMemory, SourceChanged, SourceFault}
use Rattle.grid_repairs.specs.Remaking.{GaveNonePlaced, told_by}

module _ {S : Type 0} (gives : S → ℕ → List ℕ → S → Type 0) (failures : S → ℕ) (lacks : S → Bool) (old new : RemadeStreaming S) where
  unread : (b : Bool) → lacks new.source ≡ b → new.remade ≡ old.remade → HasFailedMore (failures old.source) (failures new.source)
      → GaveNonePlaced gives failures lacks old (told_by b SourceFault) new
  unread true is kept more = record { kept = kept; why = (more, is) }
  unread false is kept more = record { kept = kept; why = (more, is) }

  pub told : (b : Bool) → lacks new.source ≡ b → (fault : PieceFault) → GaveNoRemade gives failures old fault new
      → GaveNonePlaced gives failures lacks old (told_by b fault) new
  told b is OutOfMemory gave = absurd gave.why
  told true is SourceChanged gave = record { kept = gave.kept; why = gave.why }
  told false is SourceChanged gave = record { kept = gave.kept; why = gave.why }
  told b is SourceFault gave = unread b is gave.kept gave.why
