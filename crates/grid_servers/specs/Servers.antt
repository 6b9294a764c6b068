-- Servers by their numbers.
use Rattle.std.specs.Prelude.{ℕ, List, Bool, not, filter, nat_eq}
use Rattle.std.specs.List.{list_any}

-- the servers that are not among those
abbrev pub is_left : List ℕ → ℕ → Bool
is_left without server = not (list_any (λ y. nat_eq y server) without)

abbrev pub servers_without : List ℕ → List ℕ → List ℕ
servers_without servers without = filter (is_left without) servers
