use Rattle.std.proofs.Common.{◌≡◌, ℕ, ◌+◌, ◌*◌, ◌<◌, drop, take}
use Rattle.share_gathering.specs.Groups.{row_of}
use Rattle.share_gathering.proofs.shares.encode_rows.Given as goal

abbrev pub invariant-loop-lane : goal.invariant-loop-lane
invariant-loop-lane l = (i : ℕ) → i < l.lane → take l.group.row (drop (i * l.group.row) l.lanes) ≡ row_of l.geometry l.group (take l.group.len l.segments) (l.first + i)
