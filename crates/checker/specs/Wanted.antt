-- The pieces of a share that are asked for. Offsets and lengths are in bytes.
use Rattle.std.specs.Prelude.{◌≡◌, ℕ, ◌+◌, ◌-◌, ◌*◌, ◌<◌, List, Option, Some, None, Vec}
use Rattle.std.specs.Global.{Global}
use Rattle.std.specs.Prelude.{slice_get, min, map}
use Rattle.wire.specs.Limits.{most_data}
use Rattle.share_reading.specs.Opening as opening
use Rattle.share_reading.specs.declared.reading.ShareReading.{ShareReading}
use Rattle.share_reading.specs.declared.reading.ShareReading.TheVariants.{Beginning, Remaining}
use Rattle.checker.specs.declared.wanted.Came.{Came}
use Rattle.checker.specs.declared.wanted.Came.TheVariants.{Waits, Bytes, Nothing}
use Rattle.checker.specs.declared.wanted.Wanted.{Wanted}

-- ---- which bytes a piece is

-- There is a piece so many pieces after the one that is read next. The beginning of a share is read
-- one piece at a time, since each tells the next.
abbrev pub IsAhead : ShareReading → ℕ → Type 0
IsAhead (Beginning o) pieces = pieces ≡ 0
IsAhead (Remaining r) pieces = r.next + pieces * most_data < r.offsets.extension_block

-- where it begins
abbrev pub offset_ahead : ShareReading → ℕ → ℕ
offset_ahead (Beginning o) pieces = opening.next_offset o
offset_ahead (Remaining r) pieces = r.next + pieces * most_data

-- and how many bytes it has
abbrev pub length_ahead : ShareReading → ℕ → ℕ
length_ahead (Beginning o) pieces = opening.next_length o
length_ahead (Remaining r) pieces =
    min (r.offsets.extension_block - (r.next + pieces * most_data)) most_data

-- ---- what came for it

-- what comes of the bytes that came, or of none
abbrev pub came_for : Option (Vec ℕ Global) → Came
came_for (Some bytes) = Bytes bytes
came_for None = Nothing

abbrev pub positions_of : List Wanted → List ℕ
positions_of wanted = map (λ (w : Wanted). w.position) wanted

-- this is what came for one of the pieces
abbrev pub AnyCameFor : Came → List Wanted → Type 0
AnyCameFor came wanted =
    (i : ℕ) × (w : Wanted) × (slice_get wanted i ≡ Some w) × (w.came ≡ came)

abbrev pub AnyWaits : List Wanted → Type 0
AnyWaits wanted = AnyCameFor Waits wanted

abbrev pub NoneWaits : List Wanted → Type 0
NoneWaits wanted = AnyWaits wanted → ⊥

-- bytes came for each of the pieces
abbrev pub AllCame : List Wanted → Type 0
AllCame wanted = (i : ℕ) (w : Wanted) → slice_get wanted i ≡ Some w
    → (bytes : Vec ℕ Global) × (w.came ≡ Bytes bytes)
