-- Numbers as texts.
use Rattle.std.specs.Prelude.{◌≡◌, ℕ, ◌<◌, ◌^◌, List, decimal}

-- this is a number below 2^64 in decimal: digits alone, and no leading zero but that of 0
abbrev pub IsDecimal : List ℕ → Type 0
IsDecimal text = (n : ℕ) × (n < 2 ^ 64) × (text ≡ decimal n)
