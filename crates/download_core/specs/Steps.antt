-- How the parts of a download go on.
use Rattle.std.specs.Prelude.{◌≡◌, ◌≢◌, ℕ, ◌<◌, ◌≤◌, Option, Some, None, List, length, ⊤}
use Rattle.cap_text.specs.Cap.{VerifyCapValue, verify_cap_of}
use Rattle.share_reading.specs.declared.opening.Opening.{Opening}
use Rattle.request_record.specs.declared.requests.Request.{Request}
use Rattle.request_record.specs.Record.{outstanding_count}
use Rattle.download_shares.specs.Left.{FewAreLeft}
use Rattle.download_shares.specs.Known.{AreBegun}
use Rattle.download_shares.specs.BeginningMoves.{Awaits, BringsBytes, GoesOn}
use Rattle.download_shares.specs.Opening.{AreOpening, IsToldOf, nobody}
use Rattle.download_shares.specs.BeginningState.{BeginningsState}
use Rattle.download_shares.specs.declared.beginnings.News.{News}
use Rattle.download_shares.specs.declared.beginnings.News.TheVariants.{Beginning}
use Rattle.download_file.specs.Changes.{IsSameFile}
use Rattle.download_core.specs.Reading.{AreReading}
use Rattle.download_core.specs.ReadingSteps.{AddsPieces, HasHeard, HasTicked}
use Rattle.download_core.specs.declared.file_reading.Settled.{Settled}
use Rattle.download_core.specs.declared.file_reading.Settled.TheVariants as settled
use Rattle.download_core.specs.declared.state.FoundFile.{FoundFile}
use Rattle.download_core.specs.declared.state.Machine.{Machine}
use Rattle.download_core.specs.declared.status.DownloadStatus.{DownloadStatus}
use Rattle.download_core.specs.declared.status.DownloadStatus.TheVariants.{Running, Done, Failed}
use Rattle.download_core.specs.declared.status.DownloadStatus.TheVariants.{NotEnoughShares}
use Rattle.download_core.specs.declared.status.DownloadStatus.TheVariants.{Inconsistent}
use Rattle.download_core.specs.Causes.{AreCaused}
use Rattle.download_core.specs.Ends.{HasNoCodeWord}
use Rattle.download_core.specs.Given.{IsFileIfFound}
use Rattle.download_core.specs.Reads.{PlansMore, ReadsBeside, ReadsNoMore}
use Rattle.download_core.specs.State.{DownloadState, Found}

-- ---- what contracts see of it

abbrev pub found_of : Option FoundFile → Option Found
found_of None = None
found_of (Some f) = Some (record { position = f.position; file = f.reading.file })

abbrev pub state_of : Machine → List ℕ → DownloadStatus → DownloadState
state_of m servers status = record {
  cap = m.cap;
  from = m.from;
  to = m.to;
  servers = servers;
  requests = m.beginnings.holdings.requests;
  found = found_of m.found;
  blamed = m.beginnings.holdings.blamed;
  status = status;
}

abbrev pub entries_of : Machine → List Request
entries_of m = m.beginnings.holdings.requests.entries

-- ---- while it runs

-- shares are opened, where no extension block is accepted, and an answer came to the next read of
-- the share at most that the news tell of
pub record AreOpened (total : ℕ) (but : ℕ → Type 0) (s : BeginningsState) : Type 0 where
  pub known : AreBegun s
  pub opening : AreOpening but s
  pub count : length s.holdings.table.numbers ≡ total

-- shares are opened, or a file is read
abbrev pub IsInPhase : ℕ → BeginningsState → Option FoundFile → Type 0
IsInPhase total s None = AreOpened total nobody s
IsInPhase total s (Some f) = AreReading s f.reading

-- It is for the cap. Some bytes are wanted, all of them of its file.
pub record IsFor (m : Machine) : Type 0 where
  pub verify : m.verify ≡ verify_cap_of m.cap
  pub some : m.from < m.to
  pub inside : m.to ≤ m.cap.size

-- a download that runs
pub record IsUnderWay (m : Machine) : Type 0 where
  pub wanted : IsFor m
  pub file : IsFileIfFound m.cap m.from m.to (entries_of m) (found_of m.found)
  pub phase : IsInPhase m.cap.total m.beginnings m.found

-- what a message brought to the shares that are opened
abbrev pub AwaitsNews : BeginningsState → News → Type 0
AwaitsNews s (Beginning holding position) = (o : Opening) × Awaits s holding position o
AwaitsNews s told = ⊤

pub record OpensWith (total : ℕ) (s : BeginningsState) (told : News) : Type 0 where
  pub opened : AreOpened total (IsToldOf told) s
  pub bytes : BringsBytes s.holdings.requests.entries told
  pub awaits : AwaitsNews s told

-- what it brought
abbrev pub HasNews : ℕ → BeginningsState → Option FoundFile → News → Type 0
HasNews total s None told = OpensWith total s told
HasNews total s (Some f) told = HasHeard s f.reading told

pub record HearsOf (m : Machine) (told : News) : Type 0 where
  pub wanted : IsFor m
  pub file : IsFileIfFound m.cap m.from m.to (entries_of m) (found_of m.found)
  pub news : HasNews m.cap.total m.beginnings m.found told

-- a second passed
abbrev pub HasPassed : ℕ → BeginningsState → Option FoundFile → Type 0
HasPassed total s None = AreOpened total nobody s
HasPassed total s (Some f) = HasTicked s f.reading

pub record PassesOn (m : Machine) : Type 0 where
  pub wanted : IsFor m
  pub file : IsFileIfFound m.cap m.from m.to (entries_of m) (found_of m.found)
  pub passed : HasPassed m.cap.total m.beginnings m.found

-- ---- how it goes on

-- more is made of the same file
pub record FileGoesOn (f g : FoundFile) : Type 0 where
  pub position : g.position ≡ f.position
  pub same : IsSameFile f.reading.file g.reading.file
  pub pieces : AddsPieces f.reading.file.handout g.reading.file.handout

-- of no file a new one may come, from this offset on
abbrev pub FoundGrows : ℕ → Option FoundFile → Option FoundFile → Type 0
FoundGrows from None None = ⊤
FoundGrows from None (Some g) = g.reading.file.handout.handed ≡ from
FoundGrows from (Some f) None = ⊥
FoundGrows from (Some f) (Some g) = FileGoesOn f g

-- each share that is blamed has its cause, and no more is read than may be
pub record IsFair (cap : VerifyCapValue) (s : BeginningsState) (found : Option Found)
    : Type 0 where
  pub causes : AreCaused cap s.holdings.requests.entries found s.holdings.blamed
  pub reads : ReadsNoMore s.holdings.requests.entries found

abbrev pub AllIsFair : Machine → Type 0
AllIsFair m = IsFair (verify_cap_of m.cap) m.beginnings (found_of m.found)

-- It is for the same, more is asked and blamed, and what is read of a file stays right. What is
-- blamed and read stays fair, and what more is read of a file is planned.
pub record MovesOn (old new : Machine) : Type 0 where
  pub cap : new.cap ≡ old.cap
  pub verify : new.verify ≡ old.verify
  pub from_is : new.from ≡ old.from
  pub to_is : new.to ≡ old.to
  pub goes : GoesOn old.beginnings new.beginnings
  pub found : FoundGrows old.from old.found new.found
  pub file : IsFileIfFound old.cap old.from old.to (entries_of old) (found_of old.found)
      → IsFileIfFound new.cap new.from new.to (entries_of new) (found_of new.found)
  pub fair : AllIsFair old → AllIsFair new
  pub later : PlansMore (found_of new.found) (entries_of old) (entries_of new)

-- ---- how it ends

-- all pieces were made
abbrev pub IsComplete : ℕ → ℕ → Option FoundFile → Type 0
IsComplete from to None = from ≡ to
IsComplete from to (Some f) = f.reading.file.handout.reached ≡ f.reading.file.handout.to

pub record IsTooFew (m : Machine) : Type 0 where
  pub quiet : outstanding_count (entries_of m) ≡ 0
  pub few : FewAreLeft m.cap.needed m.cap.total (entries_of m) m.beginnings.holdings.blamed

-- a download that ran may stand so
pub record EndsAs (m : Machine) (status : DownloadStatus) : Type 0 where
  pub way : IsUnderWay m
  pub done : status ≡ Done → IsComplete m.from m.to m.found
  pub works : status ≡ Running → 0 < outstanding_count (entries_of m)
  pub few : status ≡ NotEnoughShares → IsTooFew m
  pub inconsistent : status ≡ Inconsistent → HasNoCodeWord (entries_of m) (found_of m.found)

-- what is kept of each download
pub record IsKept (m : Machine) (status : DownloadStatus) : Type 0 where
  pub verify : m.verify ≡ verify_cap_of m.cap
  pub ordered : m.from ≤ m.to
  pub inside : m.to ≤ m.cap.size
  pub file : IsFileIfFound m.cap m.from m.to (entries_of m) (found_of m.found)
  pub way : status ≡ Running → IsUnderWay m
  pub fair : AllIsFair m
  pub beside : status ≢ Failed
      → ReadsBeside (entries_of m) m.beginnings.holdings.blamed (found_of m.found)
  pub done : status ≡ Done → IsComplete m.from m.to m.found
  pub works : status ≡ Running → 0 < outstanding_count (entries_of m)
  pub few : status ≡ NotEnoughShares → IsTooFew m
  pub inconsistent : status ≡ Inconsistent → HasNoCodeWord (entries_of m) (found_of m.found)

-- where a download stands whose file stands so
abbrev pub status_of : Settled → DownloadStatus
status_of settled.Complete = Done
status_of settled.Inconsistent = Inconsistent
status_of settled.Waits = Running
status_of settled.TooFew = NotEnoughShares
