-- Where the shares of a file go.
use Rattle.std.specs.Prelude.{◌≡◌, ℕ, ◌≤◌, ◌<◌, not, List, [], ◌∷◌, ◌++◌, length, map, filter}
use Rattle.std.specs.Prelude.{nat_eq, slice_get, slice_index, Some, take, count_by}
use Rattle.std.specs.List.{range_with_len, flat_map, zip}
use Rattle.std.specs.Set.{is_member}
use Rattle.placement.specs.Matching.{Pair, servers_of, shares_of, IsLargestMatching}

-- the shares of a file are 0 to n - 1
abbrev pub shares_below : ℕ → List ℕ
shares_below n = range_with_len 0 n

-- the pairs whose server is one of these
abbrev pub held_by : List ℕ → List Pair → List Pair
held_by servers held = filter (λ p. is_member nat_eq servers p.0) held

-- the pairs whose share is none of those taken
abbrev pub without_shares : List Pair → List Pair → List Pair
without_shares taken pairs = filter (λ p. not (is_member nat_eq (shares_of taken) p.1)) pairs

-- the servers that the matching does not use, in their order
abbrev pub unused : List Pair → List ℕ → List ℕ
unused chosen servers = filter (λ s. not (is_member nat_eq (servers_of chosen) s)) servers

-- the shares that none of the pairs has, in their order
abbrev pub untaken : List Pair → List ℕ → List ℕ
untaken pairs shares = filter (λ h. not (is_member nat_eq (shares_of pairs) h)) shares

-- the shares that no matching took, lowest first
abbrev pub remaining : List Pair → List Pair → ℕ → List ℕ
remaining m1 m2 n = untaken (m1 ++ m2) (shares_below n)

-- the shares that no matching took and no server holds, lowest first
abbrev pub spare : List Pair → List Pair → List Pair → List Pair → ℕ → List ℕ
spare m1 m2 m3 held n = untaken (m1 ++ m2 ++ m3 ++ held) (shares_below n)

-- each pair that may be placed: those that are held, and each writable server with each share
abbrev pub placeable : List Pair → List ℕ → ℕ → List Pair
placeable held writable n = held ++ flat_map (λ s. map (λ h. (s, h)) (shares_below n)) writable

-- how many shares are assigned to a server
abbrev pub load_of : List Pair → ℕ → ℕ
load_of assigned server = count_by (λ p. nat_eq p.0 server) assigned

-- no server has fewer shares assigned, and each earlier one has more
pub record IsLeastLoaded (servers : List ℕ) (assigned : List Pair) (server : ℕ) : Type 0 where
  pub position : ℕ
  pub is : slice_get servers position ≡ Some server
  pub least : (i : ℕ) → i < length servers
      → load_of assigned server ≤ load_of assigned (slice_index servers i)
  pub first : (i : ℕ) → i < position
      → load_of assigned server < load_of assigned (slice_index servers i)

-- the shares in their order, each with the server to which the fewest are assigned, those before it
-- counted
pub record IsSpread (servers : List ℕ) (assigned : List Pair) (shares : List ℕ)
    (leftovers : List Pair) : Type 0 where
  pub each : shares_of leftovers ≡ shares
  pub least : (k : ℕ) (server share : ℕ) → slice_get leftovers k ≡ Some (server, share)
      → IsLeastLoaded servers (assigned ++ take k leftovers) server

-- with no server the shares stay unplaced
abbrev pub Spreads : List ℕ → List Pair → List ℕ → List Pair → List ℕ → Type 0
Spreads [] assigned shares leftovers unplaced = (leftovers ≡ []) × (unplaced ≡ shares)
Spreads (server ∷ servers) assigned shares leftovers unplaced = IsSpread
    (server ∷ servers) assigned shares leftovers × (unplaced ≡ [])

-- the five lists of a plan
pub record IsPlan (readonly writable : List ℕ) (held : List Pair) (n : ℕ)
    (m1 m2 m3 leftovers : List Pair) (unplaced : List ℕ) : Type 0 where
  pub first_largest : IsLargestMatching (held_by readonly held) m1
  pub second_largest : IsLargestMatching (without_shares m1 (held_by writable held)) m2
  pub third_paired : m3 ≡ zip (unused m2 writable) (remaining m1 m2 n)
  pub rest_spread : Spreads writable (m2 ++ m3) (spare m1 m2 m3 held n) leftovers unplaced
