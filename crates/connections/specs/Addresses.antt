-- Where a server listens.
use Rattle.std.specs.Prelude.{◌≡◌, ◌≢◌, ⊤, List, ℕ, [], ◌++◌, codes}
use Rattle.std.specs.String.{string_bytes}
use Rattle.std.specs.Net.Addr.{IsLoopbackV4, IsLoopbackV6, MatchIp}
use Rattle.std.specs.Net.Grammar.{IsSocketText}
use Rattle.std.specs.Net.Socket.{socket_ip}
use Rattle.connections.specs.declared.address.Address.{Address}
use Rattle.connections.specs.declared.address.Address.TheVariants.{Unix, Tcp}

-- the text writes this address: a path behind `unix:`, or numbers
abbrev pub IsAddressText : List ℕ → Address → Type 0
IsAddressText text (Unix path) =
    (text ≡ codes "unix:" ++ string_bytes path) × (string_bytes path ≢ [])
IsAddressText text (Tcp address) = IsSocketText text address

-- the text writes no address
abbrev pub IsNoAddress : List ℕ → Type 0
IsNoAddress text = (address : Address) → ¬ IsAddressText text address

-- programs of this machine alone reach it
abbrev pub IsLocal : Address → Type 0
IsLocal (Unix path) = ⊤
IsLocal (Tcp address) = MatchIp (socket_ip address) IsLoopbackV4 IsLoopbackV6
