use Rattle.std.proofs.Common.{◌≡◌, ◌-◌, drop}
use Rattle.server_core.specs.Buckets.{promised}
use Rattle.server_core.proofs.buckets.Buckets.room_beside.Given as goal

abbrev pub invariant-loop-bucket : goal.invariant-loop-bucket
invariant-loop-bucket l = l.left - promised (drop l.bucket-index l.bucket-items) ≡ l.room - promised l.bucket-items
