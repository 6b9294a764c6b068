-- How the spans of a range are got, one after another: words of private clauses.
use Rattle.std.specs.Prelude.{◌≡◌, ℕ, ◌≤◌, List, Option, Some, None, length}
use Rattle.cap_text.specs.Cap.{ReadCapValue}
use Rattle.download_core.specs.declared.status.DownloadStatus.TheVariants as downloads
use Rattle.local_grid.specs.Outside.{OutsideCalls}
use Rattle.carried_operations.specs.declared.downloads.Carried.{Carried}
use Rattle.grid_gets.specs.Gets.{AllAccept, AreWritten, Point, Run}
use Rattle.grid_gets.specs.declared.tried.Tried.{Tried}
use Rattle.grid_gets.specs.declared.tried.Tried.TheVariants.{Done, TooFew}

-- the session of the next download, the grid, and the extension block of the downloads before
pub record Spanning (G : Type 0) : Type 0 where
  pub session : ℕ
  pub grid : G
  pub block : Option (List ℕ)

-- where a get stands then that wrote up to an offset
abbrev pub point_at : {G : Type 0} → Spanning G → ℕ → Point G
point_at s offset = record { offset = offset; session = s.session; grid = s.grid }

-- an extension block that was accepted stays so
abbrev pub StaysBlock : Option (List ℕ) → Option (List ℕ) → Type 0
StaysBlock None new = Unit {0}
StaysBlock (Some block) new = new ≡ Some block

-- Downloads from these servers led from one offset to another, and their bytes were written. All
-- accepted one block.
pub record Leads {G : Type 0} (calls : OutsideCalls G) (cap : ReadCapValue) (servers : List ℕ)
    (old : Spanning G) (from : ℕ) (held : Option (List ℕ)) (new : Spanning G) (at : ℕ)
    (holds : Option (List ℕ)) : Type 0 where
  pub runs : List (Run G)
  pub written : AreWritten calls cap servers (point_at old from) held runs (point_at new at)
      holds
  pub one : AllAccept new.block runs
  pub stays : StaysBlock old.block new.block

-- Downloads led from an offset on, and perhaps one more went on from there, not behind another.
pub record Stops {G : Type 0} (calls : OutsideCalls G) (cap : ReadCapValue) (servers : List ℕ)
    (old : Spanning G) (from to : ℕ) (held holds : Option (List ℕ)) : Type 0 where
  pub mid : Spanning G
  pub at : ℕ
  pub middle : Option (List ℕ)
  pub leads : Leads calls cap servers old from held mid at middle
  pub last : List (Run G)
  pub few : length last ≤ 1
  pub after : Point G
  pub written : AreWritten calls cap servers (point_at mid at) middle last after holds
  pub within : after.offset ≤ to

-- how far a download of a span came that was not refused
abbrev pub reached_by : Tried → ℕ → ℕ
reached_by Done to = to
reached_by (TooFew at) to = at

-- it was carried as far as it goes, and came so far
abbrev pub EndsWith : Carried → Tried → Type 0
EndsWith c Done = c.download.status ≡ downloads.Done
EndsWith c (TooFew at) = at ≡ c.offset
