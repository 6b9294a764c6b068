-- The hashes of the share tree that a share carries.
use Rattle.std.specs.Prelude.{◌≡◌, ℕ, ◌/◌, ◌<◌, List, [], ◌∷◌, length, take, drop, Option}
use Rattle.std.specs.Prelude.{Some, None, slice_index_or, if◌then◌else◌}
use Rattle.std.specs.Int.{w16, to_be_bytes}
use Rattle.std.specs.Simd.{first_chunks}
use Rattle.std.specs.Str.{bytes_eq}
use Rattle.merkle.specs.Path.{LeadsBy}
use Rattle.merkle.specs.Tree.{height, node_number, sibling_number}

-- the entries of a section of share hashes: a node's number in two bytes, and its hash in 32
abbrev pub entries_in : List ℕ → List (List ℕ)
entries_in section = first_chunks 34 (length section / 34) section

-- the hash that stands after a node's number
abbrev pub carried_hash : List (List ℕ) → ℕ → Option (List ℕ)
carried_hash [] number = None
carried_hash (entry ∷ entries) number =
    if bytes_eq (take 2 entry) (to_be_bytes w16 number) then Some (drop 2 entry) else
    carried_hash entries number

-- the entries lead from this hash, that of a leaf of the share tree, to the root: the leaf's own
-- entry carries it, and those of its siblings lead on
pub record LeadsByEntries (total : ℕ) (root : List ℕ) (leaf : ℕ) (hash : List ℕ)
    (entries : List (List ℕ)) : Type 0 where
  pub siblings : List (List ℕ)
  pub own : carried_hash entries (node_number (height total) leaf) ≡ Some hash
  pub carried : (i : ℕ) → i < height total
      → carried_hash entries (sibling_number (height total) leaf i)
      ≡ Some (slice_index_or siblings i [])
  pub leads : LeadsBy total root leaf hash siblings
