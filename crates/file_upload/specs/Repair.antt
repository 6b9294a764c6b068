-- What a repair uploads.
use Rattle.std.specs.Prelude.{◌≡◌, ℕ, List}
use Rattle.cap_text.specs.Cap.{VerifyCapValue}
use Rattle.file_encoding.specs.Regenerated.{AreRegenerated}
use Rattle.file_encoding.specs.RemadeLaws.{ArePassing}
use Rattle.file_upload.specs.Shares.{shares_goal}
use Rattle.upload_core.specs.Ready.{Ready}

-- All shares of the cap's file, made anew of these, for so many servers. Each passes for the cap.
pub record AreMadeOf (cap : VerifyCapValue) (happy : ℕ) (numbers : List ℕ)
    (strings : List (List ℕ)) (made : Ready (List (List ℕ))) : Type 0 where
  pub goal : made.goal ≡ shares_goal cap made.pieces
  pub happy_is : made.happy ≡ happy
  pub anew : AreRegenerated cap numbers strings made.pieces
  pub passing : ArePassing cap made.pieces
