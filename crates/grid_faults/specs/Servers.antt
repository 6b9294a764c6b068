-- The servers of a grid, by the names of their folders.
use Rattle.std.specs.Prelude.{ℕ, ◌++◌, ◌/◌, ◌%◌, ◌==◌, List, codes, decimal, if◌then◌else◌}
use Rattle.sha1.specs.Sha1.{sha1}
use Rattle.upload_core.specs.declared.status.ServerInfo.{ServerInfo}

-- the name of a server's folder: its number, below 1,000, has three digits
abbrev pub server_name : ℕ → List ℕ
server_name n = codes "server-"
    ++ (decimal (n / 100) ++ (decimal (n / 10 % 10) ++ decimal (n % 10)))

-- the id of a server is the SHA-1 of the name of its folder
abbrev pub server_of : ℕ → ServerInfo
server_of number = record { node = number; id = record { 0 = sha1 (server_name number) } }

-- one server, and any other number of them
abbrev pub server_word : ℕ → List ℕ
server_word servers = if servers == 1 then codes "server" else codes "servers"

-- the line that tells of a grid that was made
abbrev pub made_line : List ℕ → ℕ → List ℕ
made_line grid servers =
    codes "made " ++ (grid ++ (codes " with " ++ (decimal servers ++ (codes " "
    ++ (server_word servers ++ codes "\n")))))
