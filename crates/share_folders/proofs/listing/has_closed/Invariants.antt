use Rattle.std.proofs.Common.{map, take}
use Rattle.std.specs.String.{string_bytes}
use Rattle.share_folders.specs.Listed.{HaveNoClosed}
use Rattle.share_folders.proofs.listing.has_closed.Given as goal

-- none of those before this one is a closed name
abbrev pub invariant-loop-name : goal.invariant-loop-name
invariant-loop-name l = HaveNoClosed (map string_bytes (take l.name-index l.names))
