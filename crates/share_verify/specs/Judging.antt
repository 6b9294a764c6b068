-- A share that is judged as its bytes come.
use Rattle.std.specs.Prelude.{◌≡◌, ℕ, ◌+◌, ◌*◌, ◌≤◌, List, ◌++◌, length}
use Rattle.ueb.specs.Shape.{Contents}
use Rattle.share_layout.specs.Geometry.{Geometry, block_size, hashes_size, share_data_size}
use Rattle.share_layout.specs.Geometry.{tree_size}
use Rattle.share_layout.specs.Layout.{header, layout_of, spelled}
use Rattle.share_verify.specs.CapBlock.{geometry_by}
use Rattle.share_verify.specs.Hashed.{BeginsWith}
use Rattle.share_verify.specs.declared.judging.Judging.{Judging}

-- the share of a file whose extension block says this, with these bytes between its header and the
-- length of its extension block
abbrev pub share_with : Contents → List ℕ → List ℕ → List ℕ
share_with u between extension_block =
    let g = geometry_by u in
    header g ++ between ++ spelled (layout_of g) (length extension_block) ++ extension_block

-- how many bytes stand between them
abbrev pub between_size : Geometry → ℕ
between_size g = share_data_size g + (3 * tree_size g + hashes_size g)

-- The judging is of a share whose extension block says this, and was given these bytes: it has the
-- hashes of whole blocks with which the share's data begins, and all that stands behind them.
pub record HasTaken (j : Judging) (u : Contents) (taken : List ℕ) : Type 0 where
  pub ueb : j.ueb ≡ u
  pub begins : BeginsWith (block_size (geometry_by j.ueb)) taken j.hashes.items j.kept.items
  pub within : length j.hashes.items * block_size (geometry_by j.ueb)
      ≤ share_data_size (geometry_by j.ueb)

-- what it has are all bytes between the header and the length of the extension block, and no more
pub record IsWhole (j : Judging) : Type 0 where
  pub within : length j.hashes.items * block_size (geometry_by j.ueb)
      ≤ share_data_size (geometry_by j.ueb)
  pub whole : length j.hashes.items * block_size (geometry_by j.ueb) + length j.kept.items
      ≡ between_size (geometry_by j.ueb)
