-- How far files were read that are read side by side.
use Rattle.std.proofs.Common.{◌≡◌, ℕ, List, Option, IfSome, sym, subst, ◌∙◌}
use Rattle.std.specs.Prelude.{slice_get}
use Rattle.std.specs.Io.KnownBytes.{IsAtEnd}
use Rattle.sha2_lanes.specs.Stream.{Taken}
use Rattle.share_files.specs.declared.reading.Reading.{Reading}
use Rattle.share_files.specs.declared.reading.Stage.{Stage}
use Rattle.share_files.specs.declared.reading.Stage.TheVariants.{Going, Ended, Failed}
use Rattle.share_files.specs.Readings.{HasHasherAt, HasTaken, IsReading}

abbrev Goes : Stage → Type 0
Goes Going = Unit
Goes Ended = ⊥
Goes Failed = ⊥

pub not_ended : (stage : Stage) → stage ≡ Going → stage ≡ Ended → ⊥
not_ended stage going ended = subst Goes (sym going ∙ ended) tt

-- what one of the eight hashers comes to
pub hashed_one : {F : Type 0} (readings : List (Reading F)) (place : ℕ) (taken hashed : Taken) → HasHasherAt place taken readings → hashed ≡ taken → HasHasherAt place hashed readings
hashed_one readings place taken hashed has is = subst (λ (t : Taken). HasHasherAt place t readings) (sym is) has
