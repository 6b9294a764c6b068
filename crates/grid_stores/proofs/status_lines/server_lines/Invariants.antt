use Rattle.std.proofs.Common.{◌≡◌, take}
use Rattle.std.specs.List.{flat_map}
use Rattle.std.specs.String.{string_bytes}
use Rattle.grid_stores.specs.StatusLines.{server_line}
use Rattle.grid_stores.proofs.status_lines.server_lines.Given as goal

abbrev pub invariant-loop-found : goal.invariant-loop-found
invariant-loop-found l = string_bytes l.text ≡ flat_map server_line (take l.found-index l.servers)
