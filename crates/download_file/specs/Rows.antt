-- Words of private clauses: eight segments in a row.
use Rattle.std.specs.Prelude.{◌≡◌, ℕ, ◌+◌, ◌<◌, List, All}
use Rattle.request_record.specs.declared.requests.Request.{Request}
use Rattle.download_supply.specs.Supply.{SupplyState}
use Rattle.download_supply.specs.Taking.{IsProved}
use Rattle.download_segments.specs.Handout.{IsRowWanted}
use Rattle.download_segments.specs.State.{HandoutState}
use Rattle.download_segments.specs.GroupMaking.{nth, nth_block}
use Rattle.download_file.specs.State.{ReaderState}
use Rattle.download_file.specs.Answers.{blocks_of}
use Rattle.download_file.specs.Steps.{AreProved, HasAll, HasBlock}

-- eight segments from this one on are wanted, and all that they are made of is there
pub record HasRow (h : HandoutState) (readers : List ReaderState) (live : List ℕ) (number : ℕ)
    : Type 0 where
  pub wanted : IsRowWanted h number
  pub all : (i : ℕ) → i < 8 → HasAll h readers live (number + i)

-- the readers at these positions have the blocks of eight segments from this one on, each of this
-- length
abbrev pub HaveRow : List ReaderState → ℕ → ℕ → List ℕ → Type 0
HaveRow readers number len positions =
    (i : ℕ) → i < 8 → All (HasBlock readers (number + i) len) positions

-- these are the blocks of eight segments, of each segment one after another
abbrev pub IsRow : List Request → List ReaderState → ℕ → List ℕ → List (List ℕ) → Type 0
IsRow entries readers number positions rows =
    (i : ℕ) → i < 8 → nth rows i ≡ blocks_of entries readers (number + i) positions

-- among these blocks of eight segments, those that a supply holds at this position are proved
abbrev pub ProvesBlocks : SupplyState → ℕ → List (List ℕ) → ℕ → ℕ → Type 0
ProvesBlocks s number rows len k =
    (i : ℕ) → i < 8 → IsProved s (number + i) (nth_block (nth rows i) len k)

-- of so many readers from the first on each has its blocks among these
abbrev pub AreRowsProved : List ReaderState → List ℕ → ℕ → List (List ℕ) → ℕ → ℕ → Type 0
AreRowsProved readers positions number rows len count =
    (i : ℕ) → i < 8 → AreProved readers positions (number + i) (nth rows i) len count
