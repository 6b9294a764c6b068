-- Which extension block is the one of a cap's file, whoever sends it, and the geometry that it
-- tells.
use Rattle.std.specs.Prelude.{◌≡◌, ℕ, List}
use Rattle.tagged_hash.specs.TaggedHash.{tagged_hash}
use Rattle.tagged_hash.specs.declared.tag.Tag.TheVariants.{ExtensionBlock}
use Rattle.cap_text.specs.Cap.{VerifyCapValue}
use Rattle.ueb.specs.Block.{IsUeb}
use Rattle.ueb.specs.Shape.{Contents}
use Rattle.share_layout.specs.Geometry.{Geometry, geometry_with}

-- these bytes are the extension block of the cap's file, with these contents, which agree with the
-- cap
pub record IsUebFor (cap : VerifyCapValue) (extension_block : List ℕ) (u : Contents) : Type 0 where
  pub hash : tagged_hash ExtensionBlock extension_block ≡ cap.ueb_hash
  pub grammar : IsUeb extension_block u
  pub needed : u.needed_shares ≡ cap.needed
  pub total : u.total_shares ≡ cap.total
  pub size : u.size ≡ cap.size

-- the geometry of a file with this extension block
abbrev pub geometry_by : Contents → Geometry
geometry_by u = geometry_with u.size u.needed_shares u.total_shares u.segment_size
