-- At which servers the way was cleared for shares.
use Rattle.std.specs.Prelude.{◌≡◌, ◌==◌, ◌||◌, ℕ, Bool, true, false, List, [], ◌∷◌, None, Some}
use Rattle.std.specs.Prelude.{filter, map, not, if◌then◌else◌, option_map}
use Rattle.std.specs.List.{AllByRecursion, list_all}
use Rattle.carried_operations.specs.declared.range.SharePlace.{SharePlace}
use Rattle.share_scrub.specs.Clearing.{IsCleared}
use Rattle.share_files.specs.declared.acts.Act.{Act}
use Rattle.share_files.specs.declared.acts.Act.TheVariants.{Unlisted}
use Rattle.share_files.specs.declared.fate.Wanted.{Wanted}
use Rattle.share_files.specs.Acts.{Was}
use Rattle.share_scrub.specs.declared.mending.Cleared.{Cleared}
use Rattle.share_scrub.specs.declared.mending.LeftShare.{LeftShare}
use Rattle.upload_core.specs.State.{Goal}
use Rattle.grid_shares.specs.declared.mending.Way.{Way}
use Rattle.grid_shares.specs.declared.mending.Way.TheVariants.{Unmarked, Unread, Clear, Changed}
use Rattle.grid_shares.specs.declared.mending.Way.TheVariants.{Stuck}

-- whether a file was set aside or removed
abbrev pub is_touched : Cleared → Bool
is_touched cleared = not (cleared.set_aside == 0) || not (cleared.open_removed == 0)

-- a server is stuck where a share was left, and else changed where a file was touched
abbrev pub way_by : List LeftShare → Bool → Way
way_by [] false = Clear
way_by [] true = Changed
way_by (share ∷ more) touched = Stuck

-- the way was cleared at a server by some acts in its folder, and this is what it came to
pub record IsClearedAs (wanted : Wanted) (way : Way) : Type 0 where
  pub acts : List Act
  pub cleared : Cleared
  pub is_cleared : IsCleared wanted cleared acts
  pub is : way ≡ way_by cleared.left.items (is_touched cleared)

-- A server's folder has not its mark, or is elsewhere, or could not be listed, or the way was
-- cleared there.
abbrev pub IsWay : Wanted → Way → Type 0
IsWay wanted Unmarked = Unit
IsWay wanted Unread = (acts : List Act) × Was Unlisted acts
IsWay wanted Clear = IsClearedAs wanted Clear
IsWay wanted Changed = IsClearedAs wanted Changed
IsWay wanted Stuck = IsClearedAs wanted Stuck

abbrev pub is_stuck : Way → Bool
is_stuck Stuck = true
is_stuck Clear = false
is_stuck Changed = false
is_stuck Unread = false
is_stuck Unmarked = false

-- whether all files of a server stand as they stood, as far as is known
abbrev pub is_still : Way → Bool
is_still Clear = true
is_still Unmarked = true
is_still Unread = false
is_still Changed = false
is_still Stuck = false

-- the numbers of those of these shares that stand at a server
abbrev pub read_at : List SharePlace → ℕ → List ℕ
read_at places server =
    map (λ (p : SharePlace). p.share) (filter (λ (p : SharePlace). p.server == server) places)

-- The files of a goal's shares are held against this: the length of the shares and, where they are
-- mended, their digests; but for those of these numbers, which are read meanwhile.
pub record IsWanted (goal : Goal) (mend : Bool) (reading : List ℕ) (wanted : Wanted) : Type 0 where
  pub index : wanted.index ≡ goal.cap.storage_index
  pub length : wanted.length ≡ goal.share_length
  pub digests : option_map (λ d. d.now) wanted.digests ≡ (if mend then Some goal.digests else None)
  pub reading_is : wanted.reading.now ≡ reading

-- what became of a server, and what its files were held against
pub record ServerWay : Type 0 where
  pub server : ℕ
  pub way : Way
  pub wanted : Wanted

-- The way was cleared for the shares of a goal at these servers, one after the other, but for the
-- shares that are read meanwhile, which stay. Just those servers are stuck at which a share was
-- left; and it is told whether all files stand as they stood.
pub record AreCleared (goal : Goal) (mend : Bool) (reading : List SharePlace)
    (servers stuck : List ℕ) (still : Bool) : Type 0 where
  pub entries : List ServerWay
  pub servers_are : map (λ e. e.server) entries ≡ servers
  pub wanted : AllByRecursion (λ e. IsWanted goal mend (read_at reading e.server) e.wanted) entries
  pub each : AllByRecursion (λ e. IsWay e.wanted e.way) entries
  pub stuck_are : stuck ≡ map (λ e. e.server) (filter (λ e. is_stuck e.way) entries)
  pub still_is : still ≡ list_all (λ e. is_still e.way) entries

-- a server by what became of it, where it is stuck
abbrev pub stuck_by : ℕ → Way → List ℕ
stuck_by server way = if is_stuck way then server ∷ [] else []
