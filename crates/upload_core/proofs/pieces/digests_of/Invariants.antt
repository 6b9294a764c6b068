use Rattle.std.proofs.Common.{◌≡◌, ◌*◌, length, map, min, take}
use Rattle.tagged_hash.specs.TaggedHash.{share_digest}
use Rattle.upload_core.proofs.pieces.digests_of.Given as goal

-- those of the groups so far
abbrev pub invariant-loop-group : goal.invariant-loop-group
invariant-loop-group l = l.digests.items ≡ take (min (8 * l.group) (length l.shares)) (map (λ share. share_digest share.items) l.shares)
