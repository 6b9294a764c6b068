-- The text of an extension block: fields in rising order of their keys, and the first fault of a
-- text that is none.
use Rattle.std.specs.Prelude.{◌≡◌, ℕ, ◌<◌, Bool, ◌||◌, ◌&&◌, nat_le, ◌==◌, IsTrue, if◌then◌else◌}
use Rattle.std.specs.Prelude.{List, [], ◌∷◌, ◌++◌, length, codes, Option, Some, None}
use Rattle.std.specs.List.{flat_map, list_all}
use Rattle.std.specs.Str.{bytes_eq}
use Rattle.std.specs.Ordering.{nat_cmp}
use Rattle.std.specs.Cmp.Lexicographic.{slice_cmp}
use Rattle.std.specs.declared.cmp.Ordering.TheVariants.{Less}
use Rattle.tagged_hash.specs.TaggedHash.{netstring}

-- a key and its value
pub record Field : Type 0 where
  pub key : List ℕ
  pub value : List ℕ

-- the key, a colon, the value as a netstring
abbrev pub field_text : Field → List ℕ
field_text f = f.key ++ (codes ":" ++ netstring f.value)

abbrev pub fields_text : List Field → List ℕ
fields_text fields = flat_map field_text fields

-- `a` to `z`, `A` to `Z`, `_` and `-`
abbrev pub is_key_byte : ℕ → Bool
is_key_byte b =
    (nat_le 97 b && nat_le b 122) || (nat_le 65 b && nat_le b 90) || b == 95 || b == 45

-- one such byte or more
pub record IsKey (key : List ℕ) : Type 0 where
  pub some : 0 < length key
  pub bytes : IsTrue (list_all is_key_byte key)

-- the greater by its bytes comes later
abbrev pub Precedes : List ℕ → List ℕ → Type 0
Precedes a b = slice_cmp nat_cmp a b ≡ Less

-- Each field has a key, greater than the one before it, the first one greater than `last`. Every
-- key is greater than the empty text.
abbrev pub AreRising : List ℕ → List Field → Type 0
AreRising last [] = Unit {0}
AreRising last (f ∷ fields) = IsKey f.key × Precedes last f.key × AreRising f.key fields

-- the bytes are these fields, in their order
pub record AreFields (bytes : List ℕ) (fields : List Field) : Type 0 where
  pub text : bytes ≡ fields_text fields
  pub rising : AreRising [] fields

-- what stands under a key
abbrev pub value_of : List ℕ → List Field → Option (List ℕ)
value_of key [] = None
value_of key (f ∷ fields) =
    if bytes_eq f.key key then Some f.value else value_of key fields

-- the key of the last field, or the one before all of them
abbrev pub last_key : List ℕ → List Field → List ℕ
last_key last [] = last
last_key last (f ∷ fields) = last_key f.key fields

-- Something begins here, and it is no field: either no key with a colon stands first, or one does
-- that comes later than the key before it, as it has to, and no netstring follows.
pub record BeginsMalformed (last rest : List ℕ) : Type 0 where
  pub some : 0 < length rest
  pub ordered : (key after : List ℕ) → IsKey key
      → rest ≡ key ++ (codes ":" ++ after) → Precedes last key
  pub no_netstring : (key after value more : List ℕ) → IsKey key
      → rest ≡ key ++ (codes ":" ++ after) → after ≡ netstring value ++ more → ⊥

-- a key with a colon stands first here, and does not come later than the one before it
pub record BeginsOutOfOrder (last rest : List ℕ) : Type 0 where
  pub key : List ℕ
  pub after : List ℕ
  pub is_key : IsKey key
  pub text : rest ≡ key ++ (codes ":" ++ after)
  pub not_later : ¬ Precedes last key

-- from the left, fields in their order, and then a fault
pub record FaultBehind (Begins : List ℕ → List ℕ → Type 0) (bytes : List ℕ) : Type 0 where
  pub fields : List Field
  pub rest : List ℕ
  pub text : bytes ≡ fields_text fields ++ rest
  pub rising : AreRising [] fields
  pub fault : Begins (last_key [] fields) rest

abbrev pub IsMalformed : List ℕ → Type 0
IsMalformed bytes = FaultBehind BeginsMalformed bytes

abbrev pub IsOutOfOrder : List ℕ → Type 0
IsOutOfOrder bytes = FaultBehind BeginsOutOfOrder bytes
