-- How a verify of one entry ended, and why no cap was made of a file, for private clauses.
use Rattle.std.specs.Prelude.{◌≡◌, ◌<◌, ℕ, Bool, true, List, Option, None, Some, Result, Ok, Err}
use Rattle.std.specs.Prelude.{max, ⊤}
use Rattle.std.specs.Io.KnownBytes.{Appends}
use Rattle.cap_text.specs.declared.cap.Cap.{Cap}
use Rattle.file_encoding.specs.Params.{HasTooManySegments, UploadParameters, parameters_of}
use Rattle.file_streaming.specs.Prepared.{PassesDiffer, key_for}
use Rattle.grid_faults.specs.declared.fault.Fault.{Fault}
use Rattle.grid_faults.specs.declared.fault.Fault.TheVariants as faults
use Rattle.grid_surveys.specs.Verdicts.{counted_with}
use Rattle.grid_surveys.specs.Verifies.{Fate, IsFate, IsGone, Making, fate_counted, fate_status}
use Rattle.grid_surveys.specs.Verifies.{fate_text, is_chosen, judged, refused}
use Rattle.grid_surveys.specs.declared.comparing.Comparing.{Comparing}
use Rattle.grid_surveys.specs.declared.verdicts.Compared.{Compared}
use Rattle.grid_surveys.specs.declared.verdicts.Verdict.{Verdict}
use Rattle.grid_surveys.specs.declared.verifying.Came.{Came}
use Rattle.grid_words.specs.declared.verify_words.VerifyFilesWords.{VerifyFilesWords}
use Rattle.sources.specs.Opened.{Opened}
use Rattle.sources.specs.Source.{HasFailedMore}
use Rattle.ueb.specs.Limits.{max_file_size}

-- the secret and the segments of what files are compared by
abbrev pub making_of : Comparing → Making
making_of c = record { secret = c.secret.now; max_segment = c.max_segment }

-- a file that was compared so, or refused
abbrev pub fate_of : Result Verdict Fault → Fate
fate_of (Ok verdict) = judged verdict
fate_of (Err fault) = refused fault

-- it was told under a name, and counts so
pub record IsToldAs (found : Result Verdict Fault) (name : List ℕ) (before after : Option (List ℕ))
    (came : Came) : Type 0 where
  pub written : Appends before after (fate_text name (fate_of found))
  pub counted_is : (c : Compared) → counted_with c came.verdict ≡ fate_counted c (fate_of found)
  pub status_is : came.status ≡ fate_status (fate_of found)

-- counts and a status by what became of one entry more, where it was chosen
abbrev pub counted_after : Compared → Option Came → Compared
counted_after c None = c
counted_after c (Some came) = counted_with c came.verdict

abbrev pub status_with : ℕ → Option Came → ℕ
status_with status None = status
status_with status (Some came) = max status came.status

-- this became of a cap and a name that was chosen, and was written
pub record CameOfChosen {F : Type 0} (gives : Opened F → ℕ → List ℕ → Opened F → Type 0)
    (words : VerifyFilesWords) (m : Making) (cap : Cap) (name : List ℕ)
    (before after : Option (List ℕ)) (came : Came) : Type 0 where
  pub fate : Fate
  pub chosen : is_chosen fate ≡ true
  pub is : IsFate gives words m (record { cap = cap; name = name }) fate
  pub written : Appends before after (fate_text name fate)
  pub counted_is : (c : Compared) → counted_with c came.verdict ≡ fate_counted c fate
  pub status_is : came.status ≡ fate_status fate

-- the same of one that may not have been chosen
pub record CameTo {F : Type 0} (gives : Opened F → ℕ → List ℕ → Opened F → Type 0)
    (words : VerifyFilesWords) (m : Making) (cap : Cap) (name : List ℕ)
    (before after : Option (List ℕ)) (came : Option Came) : Type 0 where
  pub fate : Fate
  pub is : IsGone gives words m (record {
    entry = record { cap = cap; name = name };
    fate = fate;
  })
  pub written : Appends before after (fate_text name fate)
  pub counted_is : (c : Compared) → counted_after c came ≡ fate_counted c fate
  pub status_is : (status : ℕ) → status_with status came ≡ max status (fate_status fate)

-- Why no cap was made of a source of so many bytes, by such numbers and a secret: memory ended, its
-- size has no encoding, two passes over it differ, or a read failed.
abbrev pub IsWhyUnmade : {S : Type 0} → (S → ℕ → List ℕ → S → Type 0) → (S → ℕ) → ℕ → S → List ℕ
    → UploadParameters → Fault → Type 0
IsWhyUnmade gives failures size source secret p faults.OutOfMemory = ⊤
IsWhyUnmade gives failures size source secret p faults.TooLarge = max_file_size < size
IsWhyUnmade gives failures size source secret p faults.TooManySegments =
    HasTooManySegments size p
IsWhyUnmade gives failures size source secret p faults.SourceChanged = (after : _)
    × PassesDiffer gives size source (λ file. key_for file secret (parameters_of p)) after
IsWhyUnmade gives failures size source secret p faults.SourceFault = (after : _)
    × HasFailedMore (failures source) (failures after)
IsWhyUnmade gives failures size source secret p fault = ⊥
