-- A share while it is written.
use Rattle.std.specs.Prelude.{◌≡◌, ℕ, ◌≤◌, List, [], length, Some, unwrap_or}
use Rattle.share_layout.specs.Geometry.{Geometry}
use Rattle.share_layout.specs.Layout.{header_size, layout_of}
use Rattle.share_layout.specs.Writing.{Writing}

-- a share that is not whole yet: its file's geometry, its number and its bytes so far
pub record DraftState : Type 0 where
  pub geometry : Geometry
  pub number : ℕ
  pub bytes : List ℕ

-- the bytes that a share writer over memory holds
abbrev pub bytes_in : Writing → List ℕ
bytes_in w = unwrap_or w.contents []

-- they are the share's first bytes, with all of its header
pub record HasHeader (w : Writing) : Type 0 where
  pub known : w.contents ≡ Some (bytes_in w)
  pub offset : w.offset ≡ length (bytes_in w)
  pub header : header_size (layout_of w.geometry) ≤ w.offset
