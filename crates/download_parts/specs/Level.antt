-- The levels of a tree with a leaf for each segment: every seventh row, counted from the leaves,
-- down from the root, which is none of them. The nodes of a level under one node of the level above
-- are a group: all nodes between are computed from it.
use Rattle.std.specs.Prelude.{◌≡◌, ℕ, ◌-◌, ◌*◌, ◌/◌, ◌^◌, ◌<◌, min}
use Rattle.std.specs.Int.{div_ceil}
use Rattle.merkle.specs.Tree.{height}
use Rattle.ueb.specs.Shape.{rounded_up}
use Rattle.share_layout.specs.Geometry.{Geometry, segment_count}
use Rattle.download_parts.specs.declared.level.Level.{Level}

-- how many levels a tree of height m has, and the row of one, counted from the root
abbrev pub level_count : ℕ → ℕ
level_count m = div_ceil m 7

abbrev pub row_of : ℕ → ℕ → ℕ
row_of m level = m - 7 * (level_count m - 1 - level)

-- how many leaves a node of a row has below it
abbrev pub leaves_below : ℕ → ℕ → ℕ
leaves_below m row = 2 ^ (m - row)

-- how many nodes a group of a row has
abbrev pub group_size : ℕ → ℕ
group_size row = 2 ^ min row 7

-- The nodes of a row that are read for the segments `a` to before `b` of so many: the groups with a
-- node above one of these, without the nodes at the row's end that have no segment below them.
unfoldable pub first_node : ℕ → ℕ → ℕ → ℕ
first_node m row a = a / leaves_below m row / group_size row * group_size row

unfoldable pub end_node : ℕ → ℕ → ℕ → ℕ → ℕ
end_node m row b count =
    min (rounded_up (div_ceil b (leaves_below m row)) (group_size row))
    (div_ceil count (leaves_below m row))

-- the height of the trees of a file with this geometry
abbrev pub tree_height : Geometry → ℕ
tree_height g = height (segment_count g)

-- a level, by its number
abbrev pub level_at : Geometry → ℕ → ℕ → ℕ → Level
level_at g a b level = let row = row_of (tree_height g) level in record {
  row = row;
  first = first_node (tree_height g) row a;
  end = end_node (tree_height g) row b (segment_count g);
}

-- the node of this row is in the group above a segment's leaf, and has a segment below it
pub record IsAbove (g : Geometry) (row number node : ℕ) : Type 0 where
  pub group : node / group_size row
      ≡ number / leaves_below (tree_height g) row / group_size row
  pub some : node * leaves_below (tree_height g) row < segment_count g
