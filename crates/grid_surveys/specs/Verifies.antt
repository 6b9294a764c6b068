-- What a verify of one file, or of the files of a catalogue, writes.
use Rattle.std.specs.Prelude.{◌≡◌, ◌==◌, ◌&&◌, ℕ, Bool, true, false, List, [], ◌++◌, Option, None}
use Rattle.std.specs.Prelude.{Some, codes, fold, if◌then◌else◌, is_some, length, map, max, not, ⊤}
use Rattle.std.specs.Borrow.{Bor}
use Rattle.std.specs.Io.KnownBytes.{Appends}
use Rattle.std.specs.List.{AllByRecursion, flat_map}
use Rattle.cap_text.specs.CapText.{Spells}
use Rattle.cap_text.specs.declared.cap.Cap.{Cap}
use Rattle.catalogues.specs.Below.{IsBelowBehind}
use Rattle.catalogues.specs.Catalogues.{BeginsWithHead, Entry, HasNoHead, IsEntry, entry_text}
use Rattle.catalogues.specs.Heads.{fingerprint_of}
use Rattle.catalogues.specs.Lines.{named_text}
use Rattle.catalogues.specs.Patterns.{chooses}
use Rattle.catalogues.specs.declared.head.Head.{Head}
use Rattle.grid_faults.specs.Fault.{fault_status}
use Rattle.grid_faults.specs.declared.fault.Fault.{Fault}
use Rattle.grid_lists.specs.Statuses.{unread_status}
use Rattle.grid_shares.specs.declared.Outcome.{Outcome}
use Rattle.grid_surveys.specs.Looks.{EndsAt}
use Rattle.grid_surveys.specs.Verdicts.{Found, IsVerdict, compared_text, counted_with}
use Rattle.grid_surveys.specs.Verdicts.{none_compared, verdict_status, verdict_word}
use Rattle.grid_surveys.specs.declared.verdicts.Compared.{Compared}
use Rattle.grid_surveys.specs.declared.verdicts.Verdict.{Verdict}
use Rattle.grid_words.specs.declared.verify_words.VerifyFilesWords.{VerifyFilesWords}
use Rattle.grid_words.specs.declared.verify_words.VerifyWords.{VerifyWords}
use Rattle.grid_words.specs.declared.words.SecretWords.{SecretWords}
use Rattle.grid_words.specs.declared.words.SecretWords.TheVariants as secrets
use Rattle.sources.specs.Opened.{Opened}

-- ---- the secret

-- The secret of files: the text of words; or no byte, where neither they nor the environment name
-- a file, nor they a grid. Which one a file has, or a grid keeps, is what the system says.
abbrev pub IsUnder : SecretWords → Option (Bor (List ℕ)) → Option (Bor (List ℕ)) → List ℕ
    → Type 0
IsUnder (secrets.Text text) file grid secret = secret ≡ text.now
IsUnder (secrets.File path) file grid secret = ⊤
IsUnder secrets.Unsaid (Some path) grid secret = ⊤
IsUnder secrets.Unsaid None (Some grid) secret = ⊤
IsUnder secrets.Unsaid None None secret = secret ≡ []

-- Segments have the size that words write, or the usual one where they name no grid either. Which
-- one a grid's ways have is what the system says.
abbrev pub IsSegment : Option ℕ → Option (Bor (List ℕ)) → ℕ → Type 0
IsSegment (Some written) grid size = size ≡ written
IsSegment None (Some grid) size = ⊤
IsSegment None None size = size ≡ 131072

-- ---- one file

-- A file was compared with the cap of these words, and the word for what it is was written. The
-- environment names this file for a secret, if one. Which file stands at a path is what the system
-- says.
pub record IsVerifyBy {F : Type 0} (gives : Opened F → ℕ → List ℕ → Opened F → Type 0)
    (file : Option (Bor (List ℕ))) (words : VerifyWords) (outcome : Outcome) : Type 0 where
  pub cap : Cap
  pub spelled : Spells words.cap.now cap
  pub secret : List ℕ
  pub under : IsUnder words.secret file words.grid secret
  pub max_segment : ℕ
  pub segments : IsSegment words.max_segment words.grid max_segment
  pub found : Found F
  pub verdict : Verdict
  pub is : IsVerdict gives secret max_segment cap found verdict
  pub told : outcome.text.items ≡ verdict_word verdict ++ codes "\n"
  pub status_is : outcome.status ≡ verdict_status verdict

-- ---- the files of a catalogue

abbrev pub names_of : VerifyFilesWords → List (List ℕ)
names_of words = map (λ n. n.now) words.names.items

-- what became of an entry: its file was compared, or refused; its name leads to no file below a
-- folder, or was not chosen
pub data Fate : Type 0 where
  judged : Verdict → Fate
  refused : Fault → Fate
  misnamed : Fate
  passed : Fate

abbrev pub is_chosen : Fate → Bool
is_chosen (judged verdict) = true
is_chosen (refused fault) = true
is_chosen misnamed = true
is_chosen passed = false

abbrev pub fate_status : Fate → ℕ
fate_status (judged verdict) = verdict_status verdict
fate_status (refused fault) = fault_status fault
fate_status misnamed = unread_status
fate_status passed = 0

-- the line of one that was compared
abbrev pub fate_text : List ℕ → Fate → List ℕ
fate_text name (judged verdict) = named_text (verdict_word verdict) name
fate_text name _ = []

abbrev pub fate_counted : Compared → Fate → Compared
fate_counted c (judged verdict) = counted_with c (Some verdict)
fate_counted c (refused fault) = counted_with c None
fate_counted c misnamed = counted_with c None
fate_counted c passed = c

-- how files are compared: under this secret, in segments of at most so many bytes
pub record Making : Type 0 where
  pub secret : List ℕ
  pub max_segment : ℕ

abbrev pub IsFate : {F : Type 0} → (Opened F → ℕ → List ℕ → Opened F → Type 0)
    → VerifyFilesWords → Making → Entry → Fate → Type 0
IsFate gives words m entry (judged verdict) =
    (found : Found _) × IsVerdict gives m.secret m.max_segment entry.cap found verdict
IsFate gives words m entry (refused fault) = ⊤
IsFate gives words m entry misnamed = (is_some words.into ≡ true)
    × ((front rest : List ℕ) → ¬ (IsBelowBehind entry.name front rest))
IsFate gives words m entry passed = ⊤

-- an entry, and what became of its file
pub record Gone : Type 0 where
  pub entry : Entry
  pub fate : Fate

abbrev pub IsGone : {F : Type 0} → (Opened F → ℕ → List ℕ → Opened F → Type 0)
    → VerifyFilesWords → Making → Gone → Type 0
IsGone gives words m g = (is_chosen g.fate ≡ chooses (names_of words) g.entry.name)
    × IsFate gives words m g.entry g.fate

abbrev pub gone_text : Gone → List ℕ
gone_text g = fate_text g.entry.name g.fate

abbrev pub counts_of : List Gone → Compared
counts_of gone = fold (λ c g. fate_counted c g.fate) none_compared gone

-- the greatest of their statuses
abbrev pub worst : List Gone → ℕ
worst gone = fold (λ status g. max status (fate_status g.fate)) 0 gone

-- that of names that were asked for, and chose no entry
abbrev pub unfound_status : VerifyFilesWords → Compared → ℕ
unfound_status words c =
    if not (length words.names.items == 0) && (c.files == 0) then unread_status else 0

-- The lines of a text were gone through, up to its end or to what is no line. Each file that was
-- compared has its line, and the last line tells how many there are. The status is the greatest.
pub record AreVerified {F : Type 0} (gives : Opened F → ℕ → List ℕ → Opened F → Type 0)
    (words : VerifyFilesWords) (m : Making) (text : List ℕ) (status : ℕ)
    (before after : Option (List ℕ)) : Type 0 where
  pub gone : List Gone
  pub left : List ℕ
  pub lines : text ≡ flat_map (λ g. entry_text g.entry) gone ++ left
  pub entries : AllByRecursion (λ g. IsEntry g.entry) gone
  pub fates : AllByRecursion (IsGone gives words m) gone
  pub end : ℕ
  pub ends : EndsAt left end
  pub status_is : status ≡ max (max (worst gone) end) (unfound_status words (counts_of gone))
  pub written : Appends before after (flat_map gone_text gone ++ compared_text (counts_of gone))

-- the segments of a catalogue's files, and this secret
abbrev pub making_by : Head → List ℕ → Making
making_by head secret = record { secret = secret; max_segment = head.numbers.segment_size }

-- A text is no catalogue, and nothing was written; or its first line has the fingerprint of the
-- secret, and its lines were gone through. Which text a catalogue has is what the system says.
pub data IsVerifyDone {F : Type 0} (gives : Opened F → ℕ → List ℕ → Opened F → Type 0)
    (file : Option (Bor (List ℕ))) (words : VerifyFilesWords) (status : ℕ)
    (before after : Option (List ℕ)) : Type 0 where
  unread : (text : List ℕ) → HasNoHead text → status ≡ unread_status → after ≡ before
      → IsVerifyDone gives file words status before after
  read : (text secret : List ℕ) → (head : Head) → (rest : List ℕ) → BeginsWithHead text head rest
      → IsUnder words.secret file words.grid secret
      → head.fingerprint ≡ fingerprint_of head.numbers secret
      → AreVerified gives words (making_by head secret) rest status before after
      → IsVerifyDone gives file words status before after
