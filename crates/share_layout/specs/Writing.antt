-- What a share writer writes.
use Rattle.std.specs.Prelude.{◌≡◌, ℕ, ◌==◌, Bool, List, [], ◌++◌, length, Option}
use Rattle.std.specs.Prelude.{if◌then◌else◌}
use Rattle.std.specs.Io.KnownBytes.{Appends}
use Rattle.share_layout.specs.Geometry.{Geometry}
use Rattle.share_layout.specs.Layout.{header, header_size, layout_of, spelled}

-- A share writer: the geometry, the share's number, how many bytes of the share are written,
-- whether its writer has failed, and the bytes that the writer holds, where they are known.
pub record Writing : Type 0 where
  pub geometry : Geometry
  pub number : ℕ
  pub offset : ℕ
  pub failed : Bool
  pub contents : Option (List ℕ)

-- what is written before the next bytes: the header, before the first
abbrev pub beginning : Geometry → ℕ → List ℕ
beginning g offset = if offset == 0 then header g else []

-- where the next bytes are written
abbrev pub next_offset : Geometry → ℕ → ℕ
next_offset g offset = if offset == 0 then header_size (layout_of g) else offset

-- how a share ends: with the extension block, behind its length
abbrev pub ending : Geometry → List ℕ → List ℕ
ending g extension_block = spelled (layout_of g) (length extension_block) ++ extension_block

-- a beginning of these bytes was added
pub record AppendsBeginning (old new : Option (List ℕ)) (bytes : List ℕ) : Type 0 where
  pub beginning : List ℕ
  pub rest : List ℕ
  pub text : bytes ≡ beginning ++ rest
  pub added : Appends old new beginning
