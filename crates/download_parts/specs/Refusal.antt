-- Why share hashes are refused.
use Rattle.std.specs.Prelude.{ℕ, List}
use Rattle.merkle.specs.Partial.{IsNotConsistent}
use Rattle.merkle.specs.Tree.{height, needed_numbers}
use Rattle.share_layout.specs.Share.{CarriesNumbers}
use Rattle.share_verify.specs.declared.check.Check.{Check}
use Rattle.share_verify.specs.declared.check.Check.TheVariants as checks
use Rattle.download_parts.specs.Offers.{share_hashes_offered}
use Rattle.download_parts.specs.Trees.{FileTreesState}

-- they carry the numbers of the nodes that lead from a share to the root
abbrev pub HasNumbers : FileTreesState → ℕ → List ℕ → Type 0
HasNumbers t share bytes = CarriesNumbers (needed_numbers (height t.geometry.total) share) bytes

-- the first fault, by its check
abbrev pub IsHashesRefusal : FileTreesState → ℕ → List ℕ → Check → Type 0
IsHashesRefusal t share bytes checks.Layout = ¬ HasNumbers t share bytes
IsHashesRefusal t share bytes checks.ShareHashes =
    HasNumbers t share bytes
    × IsNotConsistent t.shares (share_hashes_offered t.geometry.total share bytes)
IsHashesRefusal t share bytes check = ⊥
