-- What a check tells.
use Rattle.std.specs.Prelude.{◌≡◌, ◌<◌, ◌+◌, ℕ, List, Bool, Option, Some, None, true, false, codes}
use Rattle.std.specs.Prelude.{if◌then◌else◌, length, nat_eq}
use Rattle.std.specs.List.{IsDistinct}
use Rattle.cap_text.specs.Cap.{VerifyCapValue, verify_cap_of}
use Rattle.cap_text.specs.CapText.{Spells}
use Rattle.cap_text.specs.declared.cap.Cap.{Cap}
use Rattle.cap_text.specs.declared.cap.Cap.TheVariants.{Chk, Verify, Lit}
use Rattle.checker.specs.Moves.{Begins}
use Rattle.checker.specs.Report.{IsReport}
use Rattle.checker.specs.State.{CheckState}
use Rattle.checker.specs.declared.status.Report.{Report}
use Rattle.carried_operations.specs.Checked.{IsCarried}
use Rattle.carried_operations.specs.Written.{capped}
use Rattle.local_grid.specs.Outside.{OutsideCalls}
use Rattle.grid_rules.specs.ReportJson.{report_json}
use Rattle.grid_rules.specs.ReportLines.{report_lines, report_status}
use Rattle.grid_servers.specs.Grids.{FolderGridState, GridCalls}
use Rattle.grid_servers.specs.Opened.{AreOpenedToRead}
use Rattle.grid_words.specs.declared.words.CheckWords.{CheckWords}
use Rattle.grid_shares.specs.declared.Outcome.{Outcome}

-- ---- the servers

-- The servers of a grid as a check finds them: their numbers, the grid, and the session of the
-- check.
pub record Standing (G : Type 0) : Type 0 where
  pub servers : List ℕ
  pub grid : G
  pub session : ℕ

-- They were just opened for reading, each over its own folder or elsewhere; there are some, and
-- they are distinct.
pub record AreNew {S : Type 0} (grid : List ℕ) (s : Standing (FolderGridState S)) : Type 0 where
  pub some : 0 < length s.servers
  pub distinct : IsDistinct nat_eq s.servers
  pub opened : AreOpenedToRead grid s.grid
  pub first : s.session ≡ 1

-- A check of a cap's file was begun over servers that stand so, in their session, and carried to
-- its end.
pub record IsCheckedOver {G : Type 0} (calls : OutsideCalls G) (cap : VerifyCapValue)
    (s : Standing G) (begun ended : CheckState) (after : G) : Type 0 where
  pub begins : Begins cap s.servers s.session (calls.clock s.grid) begun
  pub carried : IsCarried calls begun s.grid ended after

-- One led from these to those, which have the next session.
pub record AreCheckedTo {G : Type 0} (calls : OutsideCalls G) (old new : Standing G) : Type 0 where
  pub cap : VerifyCapValue
  pub begun : CheckState
  pub ended : CheckState
  pub over : IsCheckedOver calls cap old begun ended new.grid
  pub servers : new.servers ≡ old.servers
  pub session : new.session ≡ capped (old.session + 1)

-- They were opened, and since then checks were carried over them, one after another.
pub data WereChecked {S : Type 0} (calls : GridCalls S) (grid : List ℕ)
    : Standing (FolderGridState S) → Type 0 where
  were_new : (s : Standing (FolderGridState S)) → AreNew grid s → WereChecked calls grid s
  checked_on : (old new : Standing (FolderGridState S)) → WereChecked calls grid old
      → AreCheckedTo calls old new → WereChecked calls grid new

-- They stand so: kept open since they were opened, or just opened.
abbrev pub Stands : {S : Type 0} → GridCalls S → List ℕ → Bool → Standing (FolderGridState S)
    → Type 0
Stands calls grid true s = WereChecked calls grid s
Stands calls grid false s = AreNew grid s

-- ---- what is found

-- This is the report of a check over servers that stand so: by what they answered in its turns.
pub record IsCheckedAt {G : Type 0} (calls : OutsideCalls G) (cap : VerifyCapValue)
    (s : Standing G) (r : Report) : Type 0 where
  pub begun : CheckState
  pub ended : CheckState
  pub after : G
  pub over : IsCheckedOver calls cap s begun ended after
  pub report : IsReport cap ended.requests.entries r

-- The same over the servers of a grid, which were kept open or just opened.
pub record IsCheckedBy {S : Type 0} (calls : GridCalls S) (grid : List ℕ) (kept : Bool)
    (cap : VerifyCapValue) (r : Report) : Type 0 where
  pub stood : Standing (FolderGridState S)
  pub stands : Stands calls grid kept stood
  pub checked : IsCheckedAt calls cap stood r

-- What is found of a file among others: nothing where it has no verify cap.
abbrev pub IsCheckedFile : {S : Type 0} → GridCalls S → List ℕ → Bool → Option VerifyCapValue
    → Option Report → Type 0
IsCheckedFile calls grid kept None found = found ≡ None
IsCheckedFile calls grid kept (Some cap) None = ⊥
IsCheckedFile calls grid kept (Some cap) (Some r) = IsCheckedBy calls grid kept cap r

-- ---- what is told of one file

-- the lines of a report, or its objects
abbrev pub check_text : Report → ℕ → Bool → List ℕ
check_text r total json = if json then report_json r total else report_lines r

-- What is told of a cap's file, and the exit status. The servers were opened for it.
pub record IsCheckOf {S : Type 0} (calls : GridCalls S) (grid : List ℕ) (cap : VerifyCapValue)
    (json strict : Bool) (outcome : Outcome) : Type 0 where
  pub report : Report
  pub checked : IsCheckedBy calls grid false cap report
  pub told : outcome.text.items ≡ check_text report cap.total json
  pub status_is : outcome.status ≡ report_status report strict

-- the verify cap of a cap; one that holds its file has none
abbrev pub verify_of : Cap → Option VerifyCapValue
verify_of (Chk cap) = Some (verify_cap_of cap)
verify_of (Verify cap) = Some cap
verify_of (Lit file) = None

-- what is told of a cap that holds its file
abbrev pub literal_text : Bool → List ℕ
literal_text json = if json then codes "{\"literal\":true}\n" else codes "literal\n"

-- What these words tell by the verify cap of their cap: that there is none, or what was found of
-- its shares at servers of the grid, none of which was asked twice.
abbrev pub IsCheckFor : {S : Type 0} → GridCalls S → CheckWords → Option VerifyCapValue → Outcome
    → Type 0
IsCheckFor calls words None outcome =
    (outcome.text.items ≡ literal_text words.json) × (outcome.status ≡ 0)
IsCheckFor calls words (Some cap) outcome =
    IsCheckOf calls words.grid.now cap words.json words.strict outcome

-- What a check tells by its words, whose text is that of a cap.
pub record IsCheckBy {S : Type 0} (calls : GridCalls S) (words : CheckWords) (outcome : Outcome)
    : Type 0 where
  pub cap : Cap
  pub spelled : Spells words.cap.now cap
  pub told : IsCheckFor calls words (verify_of cap) outcome
