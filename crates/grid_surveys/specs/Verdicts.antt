-- What a file is found to be by its cap, and how that is told.
use Rattle.std.specs.Prelude.{◌≡◌, ◌≢◌, ℕ, List, ◌++◌, Option, None, Some, codes, decimal, length}
use Rattle.cap_text.specs.Cap.{ReadCapValue, verify_cap_of}
use Rattle.cap_text.specs.declared.cap.Cap.{Cap}
use Rattle.cap_text.specs.declared.cap.Cap.TheVariants as caps
use Rattle.file_encoding.specs.Encoding.{Parameters}
use Rattle.file_streaming.specs.Prepared.{IsPreparedFrom, PreparedFile}
use Rattle.sources.specs.Opened.{Opened}
use Rattle.grid_surveys.specs.Looks.{one_more}
use Rattle.grid_surveys.specs.declared.verdicts.Compared.{Compared}
use Rattle.grid_surveys.specs.declared.verdicts.Verdict.{Verdict}
use Rattle.grid_surveys.specs.declared.verdicts.Verdict.TheVariants as verdicts

-- ---- the cap of a file

-- how many bytes the file of a cap has
abbrev pub cap_size : Cap → ℕ
cap_size (caps.Chk cap) = cap.size
cap_size (caps.Verify cap) = cap.size
cap_size (caps.Lit file) = length file

-- a cap that was made is this one, or has it as its verify cap
abbrev pub IsIt : Cap → ReadCapValue → Type 0
IsIt (caps.Chk cap) made = made ≡ cap
IsIt (caps.Verify cap) made = verify_cap_of made ≡ cap
IsIt (caps.Lit file) made = ⊥

-- how a cap's file is encoded, in segments of at most so many bytes; a literal cap's file is not
abbrev pub parameters_with : ℕ → ℕ → ℕ → Parameters
parameters_with needed total max_segment =
    record { needed = needed; total = total; max_segment = max_segment }

abbrev pub parameters_by : Cap → ℕ → Parameters
parameters_by (caps.Chk cap) max_segment = parameters_with cap.needed cap.total max_segment
parameters_by (caps.Verify cap) max_segment = parameters_with cap.needed cap.total max_segment
parameters_by (caps.Lit file) max_segment = parameters_with 0 0 max_segment

-- A source of so many bytes was read twice, as a put reads it, and a cap was made of it, by these
-- numbers and the secret. This is so of that cap.
pub record IsMade {S : Type 0} (gives : S → ℕ → List ℕ → S → Type 0) (size : ℕ) (source : S)
    (secret : List ℕ) (p : Parameters) (IsSo : ReadCapValue → Type 0) : Type 0 where
  pub prepared : PreparedFile
  pub after : S
  pub from : IsPreparedFrom gives size source secret p prepared after
  pub is : IsSo prepared.cap

-- ---- verdicts

-- An open file of so many bytes is found to be this by a cap. It is read only where it has the size
-- of the cap.
abbrev pub IsOfSource : {S : Type 0} → (S → ℕ → List ℕ → S → Type 0) → ℕ → S → List ℕ → ℕ → Cap
    → Verdict → Type 0
IsOfSource gives size source secret max_segment cap verdicts.Same = (size ≡ cap_size cap)
    × IsMade gives size source secret (parameters_by cap max_segment) (IsIt cap)
IsOfSource gives size source secret max_segment cap verdicts.OtherSize = size ≢ cap_size cap
IsOfSource gives size source secret max_segment cap verdicts.OtherBytes = (size ≡ cap_size cap)
    × IsMade gives size source secret (parameters_by cap max_segment) (λ made. ¬ (IsIt cap made))

-- so are some bytes, which their cap holds
abbrev pub IsOfBytes : List ℕ → Cap → Verdict → Type 0
IsOfBytes bytes cap verdicts.Same = cap ≡ caps.Lit bytes
IsOfBytes bytes cap verdicts.OtherSize = length bytes ≢ cap_size cap
IsOfBytes bytes cap verdicts.OtherBytes = (length bytes ≡ cap_size cap) × (cap ≢ caps.Lit bytes)

-- what stands at a path: some bytes, or an open file of more than a cap holds
pub data Found (F : Type 0) : Type 0 where
  held : List ℕ → Found F
  opened : Opened F → Found F

abbrev pub IsVerdict : {F : Type 0} → (Opened F → ℕ → List ℕ → Opened F → Type 0) → List ℕ → ℕ
    → Cap → Found F → Verdict → Type 0
IsVerdict gives secret max_segment cap (held bytes) verdict = IsOfBytes bytes cap verdict
IsVerdict gives secret max_segment cap (opened source) verdict =
    IsOfSource gives source.size source secret max_segment cap verdict

-- the word that tells one, and its status
abbrev pub verdict_word : Verdict → List ℕ
verdict_word verdicts.Same = codes "same"
verdict_word verdicts.OtherSize = codes "differs"
verdict_word verdicts.OtherBytes = codes "differs"

abbrev pub verdict_status : Verdict → ℕ
verdict_status verdicts.Same = 0
verdict_status verdicts.OtherSize = 5
verdict_status verdicts.OtherBytes = 5

-- ---- how many there are

abbrev pub none_compared : Compared
none_compared = record { files = 0; same = 0; differ = 0; refused = 0 }

-- one more, which has no verdict where it was refused
abbrev pub counted_with : Compared → Option Verdict → Compared
counted_with c (Some verdicts.Same) =
    record c { files = one_more c.files; same = one_more c.same }
counted_with c (Some verdicts.OtherSize) =
    record c { files = one_more c.files; differ = one_more c.differ }
counted_with c (Some verdicts.OtherBytes) =
    record c { files = one_more c.files; differ = one_more c.differ }
counted_with c None = record c { files = one_more c.files; refused = one_more c.refused }

-- the last line
abbrev pub compared_text : Compared → List ℕ
compared_text c = codes "files " ++ (decimal c.files ++ (codes " same " ++ (decimal c.same
    ++ (codes " differ " ++ (decimal c.differ ++ (codes " refused " ++ (decimal c.refused
    ++ codes "\n")))))))
