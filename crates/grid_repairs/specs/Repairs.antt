-- What a repair tells.
use Rattle.std.specs.Prelude.{◌≡◌, ℕ, List, ◌++◌, Bool, Option, Some, None, true, false, codes}
use Rattle.std.specs.Prelude.{All, decimal, map}
use Rattle.std.specs.List.{Contains}
use Rattle.cap_text.specs.Cap.{VerifyCapValue}
use Rattle.cap_text.specs.CapText.{Spells}
use Rattle.cap_text.specs.declared.cap.Cap.{Cap}
use Rattle.placement.specs.Matching.{Pair}
use Rattle.carried_operations.specs.declared.range.SharePlace.{SharePlace}
use Rattle.share_source.specs.Decoded.{Decoding, GivesDecoded}
use Rattle.carried_operations.specs.Fetched.{FetchedState, IsReadOver, IsUnread}
use Rattle.file_upload.specs.RemadeStream.{RemadeStreaming}
use Rattle.file_upload.specs.Shares.{MayWant}
use Rattle.upload_core.specs.Ready.{Ready}
use Rattle.checker.specs.Report.{good_pairs}
use Rattle.checker.specs.declared.status.Report.{Report}
use Rattle.checker.specs.declared.status.ShareVerdict.{ShareVerdict}
use Rattle.grid_servers.specs.Grids.{FolderGridState, GridCalls}
use Rattle.grid_servers.specs.Opened.{AreOpenedToRead}
use Rattle.grid_words.specs.declared.words.RepairWords.{RepairWords}
use Rattle.grid_repairs.specs.Checks.{IsCheckedBy, literal_text, verify_of}
use Rattle.grid_shares.specs.Placing.{ArePlaced}
use Rattle.grid_shares.specs.Puts.{stored_status}
use Rattle.grid_repairs.specs.Remaking.{AreMadeAnew, lacks_memory, remade_calls}
use Rattle.grid_shares.specs.declared.Outcome.{Outcome}
use Rattle.grid_shares.specs.declared.placing.Stored.{Stored}

-- The servers of a grid were opened for reading at which these shares of a cap's file stand.
pub record AreOpenedFor {S : Type 0} (grid : List ℕ) (cap : VerifyCapValue)
    (places : List SharePlace) (bytes : FetchedState (FolderGridState S)) : Type 0 where
  pub opened : AreOpenedToRead grid bytes.outside
  pub index : bytes.index ≡ cap.storage_index
  pub places_are : bytes.places ≡ places
  pub first : bytes.session ≡ 1

-- these places are those of good shares by a report, and each number that has a good share is that
-- of one
pub record ArePlacesOfGood (verdicts : List ShareVerdict) (places : List SharePlace) : Type 0 where
  pub good : All (λ (p : SharePlace). Contains (good_pairs verdicts) (p.server, p.share)) places
  pub all : (pair : Pair) → Contains (good_pairs verdicts) pair
      → Contains (map (λ (p : SharePlace). p.share) places) pair.1

-- By this report a check found good shares of a cap's file, of as many numbers as are needed. All
-- shares were made anew of some of these, which were read once where they stand, and they were
-- placed on the same servers, which may have been kept open for it, each piece made of what was
-- read once more.
pub record IsRepairedOver {S : Type 0} (calls : GridCalls S) (grid : List ℕ) (kept mend : Bool)
    (report : Report) (cap : VerifyCapValue) (happy : ℕ) (servers : List ℕ) (stored : Stored)
    : Type 0 where
  pub places : List SharePlace
  pub of_good : ArePlacesOfGood report.verdicts places
  pub bytes : FetchedState (FolderGridState S)
  pub opened : AreOpenedFor grid cap places bytes
  pub made : Ready (RemadeStreaming (Decoding (FetchedState (FolderGridState S))))
  pub reading : List SharePlace
  pub anew : AreMadeAnew (IsReadOver calls) (IsUnread calls) cap happy
      places bytes made reading
  pub placed : ArePlaced (remade_calls
      (GivesDecoded (IsReadOver calls) (IsUnread calls))
      (λ s. s.failures) lacks_memory) calls grid kept mend reading servers made stored

-- A file was repaired by a check at the servers of a grid, and on these, for so many of them as a
-- file's shares can be at; those for reading and those for writing were kept open, or just opened.
pub record IsRepairedBy {S : Type 0} (calls : GridCalls S) (grid : List ℕ) (read_on write_on : Bool)
    (mend : Bool) (happy : ℕ) (cap : VerifyCapValue) (stored : Stored) : Type 0 where
  pub may : MayWant cap happy
  pub report : Report
  pub by_check : IsCheckedBy calls grid read_on cap report
  pub enough : report.recoverable ≡ true
  pub over : IsRepairedOver calls grid write_on mend report cap happy by_check.stood.servers stored

-- What became of the shares of a file among others: nothing where it has no verify cap.
abbrev pub IsRepairedFile : {S : Type 0} → GridCalls S → List ℕ → Bool → Bool → Bool → ℕ
    → Option VerifyCapValue → Option Stored → Type 0
IsRepairedFile calls grid read_on write_on mend happy None stored = stored ≡ None
IsRepairedFile calls grid read_on write_on mend happy (Some cap) None = ⊥
IsRepairedFile calls grid read_on write_on mend happy (Some cap) (Some stored) =
    IsRepairedBy calls grid read_on write_on mend happy cap stored

-- the line of a happiness
abbrev pub happiness_text : ℕ → List ℕ
happiness_text happiness = codes "happiness " ++ (decimal happiness ++ codes "\n")

-- What is told of a cap's file that was repaired, and the exit status. The servers were opened for
-- it.
pub record IsRepairOf {S : Type 0} (calls : GridCalls S) (grid : List ℕ) (mend : Bool)
    (cap : VerifyCapValue) (happy : ℕ) (outcome : Outcome) : Type 0 where
  pub stored : Stored
  pub repaired : IsRepairedBy calls grid false false mend happy cap stored
  pub told : outcome.text.items ≡ happiness_text stored.happiness
  pub status_is : outcome.status ≡ stored_status stored.is_cleared

-- What these words tell by the verify cap of their cap: that there is none, or what became of its
-- shares at servers of the grid, each of which stands there once.
abbrev pub IsRepairFor : {S : Type 0} → GridCalls S → RepairWords → Option VerifyCapValue → Outcome
    → Type 0
IsRepairFor calls words None outcome =
    (outcome.text.items ≡ literal_text false) × (outcome.status ≡ 0)
IsRepairFor calls words (Some cap) outcome =
    IsRepairOf calls words.grid.now words.mend cap words.happy outcome

-- What a repair tells by its words, whose text is that of a cap.
pub record IsRepairBy {S : Type 0} (calls : GridCalls S) (words : RepairWords) (outcome : Outcome)
    : Type 0 where
  pub cap : Cap
  pub spelled : Spells words.cap.now cap
  pub told : IsRepairFor calls words (verify_of cap) outcome
