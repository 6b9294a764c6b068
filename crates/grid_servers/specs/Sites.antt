-- What stands under the names of servers in a grid's folder.
use Rattle.std.specs.Prelude.{◌≡◌, ◌≤◌, ◌⊎◌, ⊤, ℕ, List, [], ◌∷◌, ◌++◌, length}
use Rattle.std.specs.List.{Contains}
use Rattle.std.specs.String.{string_bytes}
use Rattle.share_folders.specs.Names.{in_folder}
use Rattle.grid_faults.specs.Servers.{server_name}
use Rattle.connections.specs.Addresses.{IsAddressText}
use Rattle.connections.specs.declared.address.Address.{Address}
use Rattle.connections.specs.declared.address.Address.TheVariants.{Unix, Tcp}
use Rattle.grid_servers.specs.declared.sites.Site.{Site}
use Rattle.grid_servers.specs.declared.sites.Site.TheVariants as site

-- a line writes an address
abbrev pub IsAddress : List ℕ → Type 0
IsAddress line = (address : Address) × IsAddressText line address

-- A text has one line, and at most one line feed, behind it.
pub record IsOnlyLine (text line : List ℕ) : Type 0 where
  pub one : ¬ Contains line 10
  pub whole : (text ≡ line) ⊎ (text ≡ line ++ (10 ∷ []))

-- a text of one line writes this address
pub record IsLineOf (text : List ℕ) (address : Address) : Type 0 where
  pub line : List ℕ
  pub only : IsOnlyLine text line
  pub writes : IsAddressText line address

-- the address of the Unix socket at this path
abbrev pub IsPathOf : List ℕ → Address → Type 0
IsPathOf path (Unix own) = string_bytes own ≡ path
IsPathOf path (Tcp address) = ⊥

-- Where the server is reached that this stands for: a socket by its own path, and a file by the
-- address that it tells.
abbrev pub IsServedAt : List ℕ → ℕ → Site → Address → Type 0
IsServedAt grid number site.Socket address = IsPathOf (in_folder grid (server_name number)) address
IsServedAt grid number (site.File text) address = IsLineOf (string_bytes text) address
IsServedAt grid number site.Missing address = ⊥
IsServedAt grid number site.Folder address = ⊥
IsServedAt grid number site.Other address = ⊥

-- the text of a file has no more bytes than may tell an address
abbrev pub IsShort : Site → Type 0
IsShort (site.File text) = length (string_bytes text) ≤ 4096
IsShort site.Missing = ⊤
IsShort site.Folder = ⊤
IsShort site.Socket = ⊤
IsShort site.Other = ⊤
