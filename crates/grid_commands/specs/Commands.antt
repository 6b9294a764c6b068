-- What each command comes to: its exit status, what it adds to the bytes of `out`, and what it does
-- with files of a name.
use Rattle.std.specs.Prelude.{◌≡◌, ◌⊎◌, ℕ, List, Option, None, Some, Result, Ok, Err, IfErr, IfOk}
use Rattle.std.specs.Prelude.{⊤}
use Rattle.std.specs.Borrow.{Bor}
use Rattle.std.specs.Io.KnownBytes.{Appends}
use Rattle.std.specs.String.{string_bytes}
use Rattle.cap_text.specs.CapText.{Spells}
use Rattle.cap_text.specs.declared.cap.Cap.{Cap}
use Rattle.sources.specs.Opened.{Opened}
use Rattle.world_script.specs.Script.{lines_of}
use Rattle.world_script.specs.declared.ending.Ending.{Ending}
use Rattle.grid_gets.specs.Files.{FileAct, IsFileBy, MayBeFileBy}
use Rattle.grid_gets.specs.Gets.{IsBegunBy, IsGotBy, UnlessWriter}
use Rattle.grid_lists.specs.Gets.{IsGetFiles}
use Rattle.grid_surveys.specs.Looks.{IsLookDone, IsLookUndone, checking, repairing}
use Rattle.grid_surveys.specs.Verifies.{IsVerifyBy, IsVerifyDone}
use Rattle.grid_lists.specs.Puts.{IsPutByWays, IsPutUndone}
use Rattle.grid_repairs.specs.Checks.{IsCheckBy}
use Rattle.grid_repairs.specs.Repairs.{IsRepairBy}
use Rattle.grid_rules.specs.CapLines.{cap_lines}
use Rattle.grid_rules.specs.Ending.{world_status}
use Rattle.grid_shares.specs.declared.Outcome.{Outcome}
use Rattle.grid_stores.specs.Scrubs.{IsScrub}
use Rattle.grid_stores.specs.Status.{IsStatusBy}
use Rattle.grid_servers.specs.Grids.{GridCalls}
use Rattle.grid_faults.specs.declared.fault.Fault.TheVariants as faults
use Rattle.grid_telling.specs.declared.outcome.Failure.{Failure}
use Rattle.grid_telling.specs.declared.outcome.Failure.TheVariants as failures
use Rattle.grid_words.specs.declared.catalogue_words.GetFilesWords.{GetFilesWords}
use Rattle.grid_words.specs.declared.verify_words.VerifyFilesWords.{VerifyFilesWords}
use Rattle.grid_words.specs.declared.verify_words.VerifyWords.{VerifyWords}
use Rattle.grid_words.specs.declared.words.CheckWords.{CheckWords}
use Rattle.grid_words.specs.declared.words.GetWords.{GetWords}
use Rattle.grid_words.specs.declared.words.RepairWords.{RepairWords}
use Rattle.grid_words.specs.declared.words.Request.{Request}
use Rattle.grid_words.specs.declared.words.Request.TheVariants.{Init, Put, Get, GetFiles, Check}
use Rattle.grid_words.specs.declared.words.Request.TheVariants.{CheckFiles, Repair, RepairFiles}
use Rattle.grid_words.specs.declared.words.Request.TheVariants.{Scrub, Serve, Status, World}
use Rattle.grid_words.specs.declared.words.Request.TheVariants.{Describe, Verify, VerifyFiles}
use Rattle.grid_commands.specs.CapFiles.{IsCheckAsked, IsGetAsked, IsRepairAsked, IsVerifyAsked}
use Rattle.grid_commands.specs.Exit.{IsExit, IsServingEnd}
use Rattle.grid_commands.specs.Inits.{IsInitBy}
use Rattle.grid_commands.specs.Texts.{IsEndOf}

-- `before` and `after` are the bytes of `out`, and `old` and `new` what was done with files of a
-- name, where these are known.

-- A command came to this, which was written; the status is its own.
pub record IsWrittenOf (IsOf : Outcome → Type 0) (status : ℕ) (before after : Option (List ℕ))
    : Type 0 where
  pub outcome : Outcome
  pub of : IsOf outcome
  pub written : Appends before after outcome.text.items
  pub status_is : status ≡ outcome.status

-- Lines that say this were written.
pub record ArePrinted (IsOf : List ℕ → Type 0) (status : ℕ) (before after : Option (List ℕ))
    : Type 0 where
  pub lines : List ℕ
  pub of : IsOf lines
  pub written : Appends before after lines
  pub status_is : status ≡ 0

-- The bytes of a range were written to `out`; or nothing was, where a file is named.
abbrev pub IsGotTo : {S : Type 0} → GridCalls S → GetWords → Option (Bor (List ℕ))
    → Option (List ℕ) → Option (List ℕ) → Type 0
IsGotTo calls words None before after = IsGotBy calls words before after
IsGotTo calls words (Some path) before after = after ≡ before

pub record IsGet {S : Type 0} (calls : GridCalls S) (words : GetWords) (status : ℕ)
    (before after : Option (List ℕ)) : Type 0 where
  pub got : IsGotTo calls words words.output before after
  pub status_is : status ≡ 0

-- or a beginning of them, unless it was `out` that failed
abbrev pub IsGetBegun : {S : Type 0} → GridCalls S → GetWords → Option (Bor (List ℕ)) → Failure
    → Option (List ℕ) → Option (List ℕ) → Type 0
IsGetBegun calls words None failure before after =
    UnlessWriter failure (IsBegunBy calls words before after)
IsGetBegun calls words (Some path) failure before after = after ≡ before

-- The bytes of a range were handed to the file that is named, which was ended as whole; else it was
-- not, or only with all of them.
abbrev pub IsGetFiled : {S : Type 0} → GridCalls S → GetWords → Option (Bor (List ℕ))
    → Result ℕ Failure → Option (List FileAct) → Option (List FileAct) → Type 0
IsGetFiled calls words None ended old new = new ≡ old
IsGetFiled calls words (Some path) (Ok status) old new =
    IsFileBy calls words path.now (Ok tt) old new
IsGetFiled calls words (Some path) (Err failure) old new =
    MayBeFileBy calls words path.now old new

-- ---- with the cap of a word, or of a file

abbrev pub IsGetOf : {S : Type 0} → GridCalls S → GetWords → ℕ → Option (List ℕ)
    → Option (List ℕ) → Type 0
IsGetOf calls words status before after =
    (asked : GetWords) × IsGetAsked words asked × IsGet calls asked status before after

abbrev pub IsGetLeft : {S : Type 0} → GridCalls S → GetWords → Failure → Option (List ℕ)
    → Option (List ℕ) → Type 0
IsGetLeft calls words failure before after = (asked : GetWords) × IsGetAsked words asked
    × IsGetBegun calls asked words.output failure before after

abbrev pub IsGetFiledOf : {S : Type 0} → GridCalls S → GetWords → Result ℕ Failure
    → Option (List FileAct) → Option (List FileAct) → Type 0
IsGetFiledOf calls words ended old new = (asked : GetWords) × IsGetAsked words asked
    × IsGetFiled calls asked words.output ended old new

abbrev pub IsCheckFor : {S : Type 0} → GridCalls S → CheckWords → Outcome → Type 0
IsCheckFor calls words outcome =
    (asked : CheckWords) × IsCheckAsked words asked × IsCheckBy calls asked outcome

abbrev pub IsRepairFor : {S : Type 0} → GridCalls S → RepairWords → Outcome → Type 0
IsRepairFor calls words outcome =
    (asked : RepairWords) × IsRepairAsked words asked × IsRepairBy calls asked outcome

-- which file the environment names for a secret, no word tells
abbrev pub IsVerifyFor : {F : Type 0} → (Opened F → ℕ → List ℕ → Opened F → Type 0) → VerifyWords
    → Outcome → Type 0
IsVerifyFor gives words outcome = (asked : VerifyWords) × IsVerifyAsked words asked
    × ((file : Option (Bor (List ℕ))) × IsVerifyBy gives file asked outcome)

abbrev pub AreVerifiedFor : {F : Type 0} → (Opened F → ℕ → List ℕ → Opened F → Type 0)
    → VerifyFilesWords → ℕ → Option (List ℕ) → Option (List ℕ) → Type 0
AreVerifiedFor gives words status before after =
    (file : Option (Bor (List ℕ))) × IsVerifyDone gives file words status before after

-- What a get of the files of a catalogue did with them; where it ended with a fault it did nothing,
-- unless memory ended.
abbrev pub AreGetFiled : {S : Type 0} → GridCalls S → GetFilesWords → Result ℕ Failure
    → Option (List FileAct) → Option (List FileAct) → Type 0
AreGetFiled calls words (Ok status) old new = IsGetFiles calls words status old new
AreGetFiled calls words (Err failure) old new =
    (failure ≡ failures.Fault faults.OutOfMemory) ⊎ (new ≡ old)

-- Nothing was written; the status stands with what was done with files.
abbrev pub IsSilent : ℕ → Option (List ℕ) → Option (List ℕ) → Type 0
IsSilent status before after = after ≡ before

-- A script that some text spells was run, that of the file that was read; and how it ended was
-- written.
pub record IsWorld (status : ℕ) (before after : Option (List ℕ)) : Type 0 where
  pub text : List ℕ
  pub ending : Ending
  pub of : IsEndOf (lines_of text) ending
  pub written : Appends before after (string_bytes ending.lines)
  pub status_is : status ≡ world_status ending.agrees

-- A folder was served, until that ended. Nothing was written to `out`.
pub record IsServing (status : ℕ) (before after : Option (List ℕ)) : Type 0 where
  pub end : IsServingEnd status
  pub unwritten : after ≡ before

-- the lines of the cap that a text spells
pub record AreCapLines (text lines : List ℕ) : Type 0 where
  pub cap : Cap
  pub spelled : Spells text cap
  pub told : lines ≡ cap_lines cap

-- A request was done, with this status.
abbrev pub IsDone : {F S : Type 0} → (Opened F → ℕ → List ℕ → Opened F → Type 0) → GridCalls S
    → Request → ℕ → Option (List ℕ) → Option (List ℕ) → Type 0
IsDone gives calls (Init words) = ArePrinted (IsInitBy words)
IsDone gives calls (Put words) = IsPutByWays gives calls words
IsDone gives calls (Get words) = IsGetOf calls words
IsDone gives calls (GetFiles words) = IsSilent
IsDone gives calls (Check words) = IsWrittenOf (IsCheckFor calls words)
IsDone gives calls (CheckFiles words) = IsLookDone calls (checking words)
IsDone gives calls (Verify words) = IsWrittenOf (IsVerifyFor gives words)
IsDone gives calls (VerifyFiles words) = AreVerifiedFor gives words
IsDone gives calls (Repair words) = IsWrittenOf (IsRepairFor calls words)
IsDone gives calls (RepairFiles words) = IsLookDone calls (repairing words)
IsDone gives calls (Scrub words) = IsScrub words
IsDone gives calls (Status words) = IsWrittenOf (IsStatusBy words)
IsDone gives calls (Serve words) = IsServing
IsDone gives calls (World path) = IsWorld
IsDone gives calls (Describe text) = ArePrinted (AreCapLines text.now)

-- By a fault nothing was written. Where `out` failed, it may have any beginning of the result.
abbrev pub IsUnwritten : Failure → Option (List ℕ) → Option (List ℕ) → Type 0
IsUnwritten failures.Writer before after = ⊤
IsUnwritten (failures.Fault fault) before after = after ≡ before

-- A request was left undone. A get writes as it reads; a put, a check, a verify and a repair of
-- many tell of one file after another, and so does a scrub. How serving ends is all told by its
-- status.
abbrev pub IsUndone : {F S : Type 0} → (Opened F → ℕ → List ℕ → Opened F → Type 0) → GridCalls S
    → Request → Failure → Option (List ℕ) → Option (List ℕ) → Type 0
IsUndone gives calls (Get words) failure before after =
    IsGetLeft calls words failure before after
IsUndone gives calls (GetFiles words) failure before after = after ≡ before
IsUndone gives calls (CheckFiles words) failure before after = IsLookUndone failure before after
IsUndone gives calls (VerifyFiles words) failure before after = IsLookUndone failure before after
IsUndone gives calls (RepairFiles words) failure before after = IsLookUndone failure before after
IsUndone gives calls (Put words) failure before after =
    IsPutUndone gives calls words failure before after
IsUndone gives calls (Scrub words) failure before after = ⊤
IsUndone gives calls (Serve words) failure before after = ⊥
IsUndone gives calls request failure before after = IsUnwritten failure before after

-- Files of a name are what gets are asked for alone.
abbrev pub AreFiled : {S : Type 0} → GridCalls S → Request → Result ℕ Failure
    → Option (List FileAct) → Option (List FileAct) → Type 0
AreFiled calls (Get words) ended old new = IsGetFiledOf calls words ended old new
AreFiled calls (GetFiles words) ended old new = AreGetFiled calls words ended old new
AreFiled calls request ended old new = new ≡ old

-- A request ended so.
pub record IsRunBy {F S : Type 0} (gives : Opened F → ℕ → List ℕ → Opened F → Type 0)
    (calls : GridCalls S) (request : Request) (ended : Result ℕ Failure)
    (before after : Option (List ℕ)) (old new : Option (List FileAct)) : Type 0 where
  pub done : IfOk ended (λ status. IsDone gives calls request status before after)
  pub undone : IfErr ended (λ failure. IsUndone gives calls request failure before after)
  pub filed : AreFiled calls request ended old new

-- A request ended somehow, and this is the exit status.
pub record IsServedBy {F S : Type 0} (gives : Opened F → ℕ → List ℕ → Opened F → Type 0)
    (calls : GridCalls S) (request : Request) (status : ℕ) (before after : Option (List ℕ))
    (old new : Option (List FileAct)) : Type 0 where
  pub ended : Result ℕ Failure
  pub run : IsRunBy gives calls request ended before after old new
  pub exit : IsExit ended status

-- Each other request than to serve ends by itself. For private clauses.
abbrev pub EndsByItself : Request → Type 0
EndsByItself (Serve words) = ⊥
EndsByItself request = ⊤
