-- A folder's table of closed shares.
use Rattle.std.specs.Prelude.{◌≡◌, ◌⊎◌, ℕ, List, Bool, false, true, Option, Some, None, is_some}
use Rattle.std.specs.Prelude.{if◌then◌else◌}
use Rattle.std.specs.Cmp.Lexicographic.{slice_cmp}
use Rattle.std.specs.Ordering.{nat_cmp, is_eq, is_lt}
use Rattle.cap_text.specs.Base32.{base32}
use Rattle.share_folders.specs.declared.table.KeptShare.{KeptShare}
use Rattle.share_store.specs.Shelf.{ShareKey, at}

-- is this a closed share whose length is known?
abbrev pub is_known : Option KeptShare → Bool
is_known None = false
is_known (Some k) = is_some k.length

-- A closed share stays as it is. One whose length was not asked may be looked at: once that went
-- well its length is known, or nothing regular stands under its name, and the share is closed no
-- longer. A look that fails leaves it as it is.
abbrev pub IsSeen : Option KeptShare → Option KeptShare → Type 0
IsSeen None new = new ≡ None
IsSeen (Some k) new =
    (new ≡ Some k)
    ⊎ ((k.length ≡ None) × ((new ≡ None)
    ⊎ ((n : ℕ) × (new ≡ Some (record { length = Some n; digest = k.digest })))))

abbrev pub AreSeen : List (ShareKey × KeptShare) → List (ShareKey × KeptShare) → Type 0
AreSeen old new = (key : ShareKey) → IsSeen (at key old) (at key new)

-- the shares at other keys than those that are asked for stay as they are
abbrev pub StayBeside : {A : Type 0} → (ShareKey → Bool) → List (ShareKey × A)
    → List (ShareKey × A) → Type 0
StayBeside asked old new = (key : ShareKey) → asked key ≡ false → at key new ≡ at key old

-- is the key one of a storage index?
abbrev pub has_index : List ℕ → ShareKey → Bool
has_index index key = is_eq (slice_cmp nat_cmp index key.0)

-- a closed share whose length was not asked
abbrev pub IsUnasked : Option KeptShare → Type 0
IsUnasked None = ⊥
IsUnasked (Some k) = k.length ≡ None

-- A storage index has a closed share whose length was not asked.
abbrev pub HasUnasked : List ℕ → List (ShareKey × KeptShare) → Type 0
HasUnasked index closed =
    (key : ShareKey) × (has_index index key ≡ true) × IsUnasked (at key closed)

-- the text of one digest is below that of another
abbrev pub has_lower_text : List ℕ → List ℕ → Bool
has_lower_text a b = is_lt (slice_cmp nat_cmp (base32 a) (base32 b))

-- of two closed shares at one key the one with the lower digest text counts
abbrev pub lower_of : Option KeptShare → KeptShare → KeptShare
lower_of None share = share
lower_of (Some other) share = if has_lower_text share.digest other.digest then share else other
