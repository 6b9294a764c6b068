use Rattle.std.proofs.Common.{◌≡◌, ◌-◌, ◌++◌, map, take, drop}
use Rattle.tagged_hash.specs.TaggedHash.{share_digest}
use Rattle.upload_core.proofs.pieces.add_group.Given as goal

-- those of the shares so far
abbrev pub invariant-loop-number : goal.invariant-loop-number
invariant-loop-number l = l.digests.items ≡ l.fn.digests.items ++ take (l.number - l.first) (drop l.first (map (λ share. share_digest share.items) l.shares))
