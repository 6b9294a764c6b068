-- A source, and what was read of it.
use Rattle.std.specs.Prelude.{◌≡◌, ◌⊎◌, ℕ, ◌+◌, ◌-◌, ◌<◌, ◌≤◌, ◌^◌, List, [], ◌∷◌, length, take}
use Rattle.std.specs.Prelude.{drop}
use Rattle.std.specs.List.{flat_map}

-- ---- what a read brings

-- one more read failed, or so many did that they are not counted any more
abbrev pub HasFailedMore : ℕ → ℕ → Type 0
HasFailedMore old new = (old < new) ⊎ ((old ≡ 2 ^ 64 - 1) × (new ≡ old))

-- these are bytes of a text from an offset on, and none only where it has no more
pub record IsFrom (text : List ℕ) (offset : ℕ) (bytes : List ℕ) : Type 0 where
  pub bytes_are : bytes ≡ take (length bytes) (drop offset text)
  pub end : bytes ≡ [] → length text ≤ offset

-- ---- runs of reads

-- a read: its offset, and the bytes that it brought
abbrev pub Read : Type 0
Read = ℕ × List ℕ

-- the source gave these reads, one after another
abbrev pub Reads : {S : Type 0} → (S → ℕ → List ℕ → S → Type 0) → S → List Read → S → Type 0
Reads gives old [] new = new ≡ old
Reads gives old (read ∷ reads) new =
    (mid : _) × gives old read.0 read.1 mid × Reads gives mid reads new

-- they follow one another from an offset up to another
abbrev pub AreConsecutive : ℕ → List Read → ℕ → Type 0
AreConsecutive offset [] end = offset ≡ end
AreConsecutive offset (read ∷ reads) end =
    (read.0 ≡ offset) × AreConsecutive (offset + length read.1) reads end

-- their bytes, one after another
abbrev pub bytes_of : List Read → List ℕ
bytes_of reads = flat_map (λ (read : Read). read.1) reads

-- the part from an offset on was read, each byte once, and these are its bytes
pub record IsRead {S : Type 0} (gives : S → ℕ → List ℕ → S → Type 0) (old : S) (offset : ℕ)
    (bytes : List ℕ) (new : S) : Type 0 where
  pub reads : List Read
  pub run : Reads gives old reads new
  pub consecutive : AreConsecutive offset reads (offset + length bytes)
  pub bytes_are : bytes ≡ bytes_of reads

-- the source was read once, from its first byte to the last of so many: each byte once, from offset
-- 0 up
pub record IsPass {S : Type 0} (gives : S → ℕ → List ℕ → S → Type 0) (size : ℕ) (old : S)
    (file : List ℕ) (new : S) : Type 0 where
  pub long : length file ≡ size
  pub read : IsRead gives old 0 file new

-- it was read twice
pub record IsReadTwice {S : Type 0} (gives : S → ℕ → List ℕ → S → Type 0) (size : ℕ) (old : S)
    (first second : List ℕ) (new : S) : Type 0 where
  pub mid : S
  pub before : IsPass gives size old first mid
  pub after : IsPass gives size mid second new
