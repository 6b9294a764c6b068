-- Laws of trees of which some nodes are known.
use Rattle.std.specs.Prelude.{◌≡◌, ℕ, ◌<◌, List, Some}
use Rattle.merkle.specs.Partial.{PartialState, known_siblings}
use Rattle.merkle.specs.Path.{LeadsBy}
use Rattle.download_parts.specs.Trees.{IsBlockRoot, LeadTo, known_leaf}

-- a law: a leaf that is known leads to the root, by siblings that are known
abbrev pub LeavesLead : Type 0
LeavesLead = (p : PartialState) (root : List ℕ) (count leaf : ℕ) (hash : List ℕ)
    → LeadTo p root count → leaf < count → known_leaf p leaf ≡ Some hash
    → LeadsBy count root leaf hash (known_siblings p leaf)

-- a law: the root of a share's block tree leads to the root of the share tree
abbrev pub BlockRootsLead : Type 0
BlockRootsLead = (share_root : List ℕ) (total share : ℕ) (root : List ℕ)
    → IsBlockRoot share_root total share root → share < total
    → (siblings : List (List ℕ)) × LeadsBy total share_root share root siblings
