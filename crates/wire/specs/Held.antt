-- The shares that a server holds, lowest number first.
use Rattle.std.specs.Prelude.{◌≡◌, ℕ, ◌+◌, ◌<◌, ◌≤◌, nat_le, ◌&&◌, Bool, true, IsTrue}
use Rattle.std.specs.Prelude.{if◌then◌else◌, Option, Some, None, List, [], ◌∷◌, length, All}
use Rattle.wire.specs.declared.message.HeldShare.{HeldShare}
use Rattle.wire.specs.Limits.{most_shares}

-- do the numbers of the shares rise strictly, from low on?
abbrev pub rises_from : ℕ → List HeldShare → Bool
rises_from low [] = true
rises_from low (h ∷ hs) = nat_le low h.share && rises_from (h.share + 1) hs

abbrev pub AreRising : List HeldShare → Type 0
AreRising held = IsTrue (rises_from 0 held)

abbrev pub held_list : List HeldShare → Option (List HeldShare)
held_list held = if rises_from 0 held then Some held else None

-- a share number is one of a file's shares, and a digest has 32 bytes
abbrev pub IsHeldShare : HeldShare → Type 0
IsHeldShare h = (h.share < most_shares) × (length h.digest ≡ 32)

abbrev pub AreHeld : List HeldShare → Type 0
AreHeld held = (length held ≤ most_shares) × AreRising held × All IsHeldShare held
