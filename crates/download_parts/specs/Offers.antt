-- Bytes of a share, as nodes that are offered to a tree: each a number and a hash.
use Rattle.std.specs.Prelude.{ℕ, ◌+◌, List, [], ◌∷◌, drop}
use Rattle.merkle.specs.Tree.{height, needed_numbers, node_number}
use Rattle.share_verify.specs.ShareHashes.{entries_in}
use Rattle.share_verify.specs.TreeSection.{hashes_in}
use Rattle.download_parts.specs.declared.part.Nodes.{Nodes}

-- hashes one after another, as those of the nodes of a row from this position on
abbrev pub offered_nodes : ℕ → ℕ → List (List ℕ) → List (ℕ × List ℕ)
offered_nodes row position [] = []
offered_nodes row position (hash ∷ hashes) =
    (node_number row position, hash) ∷ offered_nodes row (position + 1) hashes

-- share hashes one after another, as those of the nodes with these numbers; each stands behind its
-- number's two bytes
abbrev pub numbered : List ℕ → List (List ℕ) → List (ℕ × List ℕ)
numbered [] entries = []
numbered (n ∷ ns) [] = []
numbered (n ∷ ns) (entry ∷ entries) = (n, drop 2 entry) ∷ numbered ns entries

-- what the bytes of these nodes offer to their tree
abbrev pub nodes_offered : Nodes → List ℕ → List (ℕ × List ℕ)
nodes_offered n bytes = offered_nodes n.row n.from (hashes_in bytes)

-- what the share hashes of one of `total` shares offer to the share tree
abbrev pub share_hashes_offered : ℕ → ℕ → List ℕ → List (ℕ × List ℕ)
share_hashes_offered total share bytes =
    numbered (needed_numbers (height total) share) (entries_in bytes)
