-- Reads of shares, each of which stands at a position.
use Rattle.std.specs.Prelude.{◌≡◌, ℕ, List, [], ◌∷◌}
use Rattle.share_reading.specs.OpeningReads.{Brought}

-- what a read brings: of which share, from which offset on, which bytes; and how one fails: of how
-- many
abbrev pub Gives : Type 0 → Type 1
Gives B = B → ℕ → ℕ → List ℕ → B → Type 0

abbrev pub Fails : Type 0 → Type 1
Fails B = B → ℕ → ℕ → ℕ → B → Type 0

-- the reads brought these bytes of the share at a position, each behind its offset, one after
-- another
abbrev pub Brings : {B : Type 0} → Gives B → ℕ → B → List Brought → B → Type 0
Brings gives position old [] new = new ≡ old
Brings {B = B} gives position old (read ∷ reads) new =
    (mid : B) × gives old position read.0 read.1 mid × Brings gives position mid reads new

-- a read of a share brought bytes, or failed
pub data IsRead {B : Type 0} (gives : Gives B) (fails : Fails B) (old new : B) : Type 0 where
  brought : (position offset : ℕ) (bytes : List ℕ) → gives old position offset bytes new
      → IsRead gives fails old new
  failed : (position offset len : ℕ) → fails old position offset len new
      → IsRead gives fails old new

-- these states came of reads, one after another
abbrev pub AreRead : {B : Type 0} → Gives B → Fails B → B → List B → B → Type 0
AreRead gives fails old [] new = new ≡ old
AreRead gives fails old (next ∷ states) new =
    IsRead gives fails old next × AreRead gives fails next states new

-- nothing but reads of shares led from one state to another
pub record WasRead {B : Type 0} (gives : Gives B) (fails : Fails B) (old new : B) : Type 0 where
  pub states : List B
  pub run : AreRead gives fails old states new
