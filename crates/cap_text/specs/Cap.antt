-- The values of caps.
use Rattle.std.specs.Prelude.{ℕ, ◌^◌, ◌<◌, ◌≤◌, List, length, slice_index}
use Rattle.cap_text.specs.Base32.{IsBytes}
use Rattle.tagged_hash.specs.TaggedHash.{storage_index_of}

-- what a read cap says
pub record ReadCapValue : Type 0 where
  pub key : List ℕ
  pub ueb_hash : List ℕ
  pub needed : ℕ
  pub total : ℕ
  pub size : ℕ

-- the read cap that says this
abbrev pub read_cap_value : List ℕ → List ℕ → ℕ → ℕ → ℕ → ReadCapValue
read_cap_value key ueb_hash needed total size =
    record { key = key; ueb_hash = ueb_hash; needed = needed; total = total; size = size }

-- what a verify cap says
pub record VerifyCapValue : Type 0 where
  pub storage_index : List ℕ
  pub ueb_hash : List ℕ
  pub needed : ℕ
  pub total : ℕ
  pub size : ℕ

-- the verify cap that says this
abbrev pub verify_cap_value : List ℕ → List ℕ → ℕ → ℕ → ℕ → VerifyCapValue
verify_cap_value storage_index ueb_hash needed total size =
    record {
      storage_index = storage_index;
      ueb_hash = ueb_hash;
      needed = needed;
      total = total;
      size = size;
    }

-- so many shares are needed of so many, and the file is of such a size
pub record AreParameters (needed total size : ℕ) : Type 0 where
  pub some : 1 ≤ needed
  pub enough : needed ≤ total
  pub shares : total ≤ 256
  pub least : 56 ≤ size
  pub most : size ≤ 2 ^ 40

-- such a read cap may be
pub record IsReadCap (c : ReadCapValue) : Type 0 where
  pub key : IsBytes 16 c.key
  pub ueb_hash : IsBytes 32 c.ueb_hash
  pub parameters : AreParameters c.needed c.total c.size

-- such a verify cap may be
pub record IsVerifyCap (c : VerifyCapValue) : Type 0 where
  pub storage_index : IsBytes 16 c.storage_index
  pub ueb_hash : IsBytes 32 c.ueb_hash
  pub parameters : AreParameters c.needed c.total c.size

-- the most bytes of a literal cap's file, and the most letters that spell it
abbrev pub max_lit_size : ℕ
max_lit_size = 55

abbrev pub max_lit_letters : ℕ
max_lit_letters = 88

-- the file of a literal cap
pub record IsLitCap (file : List ℕ) : Type 0 where
  pub short : length file ≤ max_lit_size
  pub below : (i : ℕ) → slice_index file i < 256

-- the verify cap of a read cap's file
abbrev pub verify_cap_of : ReadCapValue → VerifyCapValue
verify_cap_of c =
    verify_cap_value (storage_index_of c.key) c.ueb_hash c.needed c.total c.size
