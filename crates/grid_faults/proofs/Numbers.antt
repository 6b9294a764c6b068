-- Numbers in a row, and the servers of numbers.
use Rattle.placement.proofs.Best.{range_distinct}
use Rattle.std.proofs.Common.{◌≡◌, ℕ, List, [], ◌∷◌, map, eqb, refl, ap, subst, sym}
use Rattle.std.specs.List.{IsDistinct, range_with_len}
use Rattle.upload_core.specs.declared.status.ServerInfo.{ServerInfo}
use Rattle.grid_faults.specs.Servers.{server_of}

-- numbers in a row are distinct
pub are_distinct : (numbers : List ℕ) (n : ℕ) → numbers ≡ range_with_len 0 n
    → IsDistinct eqb numbers
are_distinct numbers n are = subst (IsDistinct eqb) (sym are) (range_distinct 0 n)

-- the nodes of servers are their numbers
pub nodes_of : (numbers : List ℕ)
    → map (λ (s : ServerInfo). s.node) (map server_of numbers) ≡ numbers
nodes_of [] = refl
nodes_of (n ∷ ns) = ap (λ (xs : List ℕ). n ∷ xs) (nodes_of ns)
