-- Words whose cap stands in a file.
use Rattle.std.specs.Prelude.{◌≡◌, ◌≢◌, ◌⊎◌, ◌-◌, ℕ, List, [], ◌∷◌, ◌++◌, None, length, slice_index}
use Rattle.grid_words.specs.declared.words.CheckWords.{CheckWords}
use Rattle.grid_words.specs.declared.words.GetWords.{GetWords}
use Rattle.grid_words.specs.declared.words.RepairWords.{RepairWords}
use Rattle.grid_words.specs.declared.verify_words.VerifyWords.{VerifyWords}

-- Words are asked with their own cap, or with that of their file. Which text a file has is what the
-- system says.
pub record IsGetAsked (words asked : GetWords) : Type 0 where
  pub others : asked ≡ record words { cap = asked.cap }
  pub own : words.cap_file ≡ None → asked.cap.now ≡ words.cap.now

pub record IsCheckAsked (words asked : CheckWords) : Type 0 where
  pub others : asked ≡ record words { cap = asked.cap }
  pub own : words.cap_file ≡ None → asked.cap.now ≡ words.cap.now

pub record IsRepairAsked (words asked : RepairWords) : Type 0 where
  pub others : asked ≡ record words { cap = asked.cap }
  pub own : words.cap_file ≡ None → asked.cap.now ≡ words.cap.now

pub record IsVerifyAsked (words asked : VerifyWords) : Type 0 where
  pub others : asked ≡ record words { cap = asked.cap }
  pub own : words.cap_file ≡ None → asked.cap.now ≡ words.cap.now

-- a text without the line feed at its end, where it has one. For a private clause.
abbrev pub IsFirstLine : List ℕ → List ℕ → Type 0
IsFirstLine text line = (text ≡ line ++ 10 ∷ [])
    ⊎ ((line ≡ text) × (slice_index text (length text - 1) ≢ 10))
