-- What segments are read by: words of private clauses.
use Rattle.std.specs.Prelude.{◌≡◌, ◌⊎◌, ℕ, ◌<◌, All, Bool, false, List, [], length, not, slice_get}
use Rattle.std.specs.Prelude.{Some, slice_index}
use Rattle.std.specs.List.{count_by}
use Rattle.ueb.specs.Shape.{Contents}
use Rattle.download_segments.specs.Decoding.{AreShareNumbers}
use Rattle.share_source.specs.Leaves.{AreLeavesOf}
use Rattle.share_source.specs.Reads.{Fails, Gives}
use Rattle.share_source.specs.Candidates.{AreSharesRead, Candidates, ShareRead, leaves_held}
use Rattle.share_source.specs.Candidates.{picked_numbers}
use Rattle.share_source.specs.declared.place.Place.{Place}
use Rattle.share_source.specs.declared.reading.Reading.{Reading}

-- of each share none are held, or the leaves of its tree
pub record AreHeldLeaves (u : Contents) (numbers : List ℕ) (held : List (List (List ℕ)))
    (struck : List Bool) : Type 0 where
  pub held_count : length held ≡ length numbers
  pub struck_count : length struck ≡ length numbers
  pub leaves : (position : ℕ) → (leaves_held held position ≡ [])
      ⊎ AreLeavesOf u (slice_index numbers position) (leaves_held held position)

-- all shares are the file's; as many of them as are needed are read, with different numbers; the
-- decoder is for these; and there is room for a segment and its blocks
pub record IsReadingOf (shares : List ℕ) (r : Reading) : Type 0 where
  pub range : All (λ number. number < r.geometry.total) shares
  pub there : All (λ p. p < length shares) r.positions.items
  pub numbers : AreShareNumbers r.geometry (picked_numbers shares r.positions.items)
  pub decoder : r.decoder ≡ picked_numbers shares r.positions.items
  pub code : r.code ≡ record { k = r.geometry.needed; n = r.geometry.total }
  pub blocks : length r.blocks.items ≡ r.geometry.segment_size
  pub segment : length r.segment.items ≡ r.geometry.segment_size

-- leaves of shares were read, one after another
abbrev pub AreTreesRead : {B : Type 0} → Gives B → Fails B → Candidates B → Candidates B → Type 0
AreTreesRead gives fails old new = (reads : List ShareRead)
    × ((place : Place) → AreSharesRead gives fails place old reads new)

-- none of these shares is struck out
abbrev pub AreLeft : List Bool → List ℕ → Type 0
AreLeft struck positions = All (λ p. slice_get struck p ≡ Some false) positions

-- how many shares are not struck out
abbrev pub unstruck_count : List Bool → ℕ
unstruck_count struck = count_by not struck

-- no share that was struck out comes back
abbrev pub StayStruck : List Bool → List Bool → Type 0
StayStruck old new = (position : ℕ) → slice_get new position ≡ Some false
    → slice_get old position ≡ Some false
