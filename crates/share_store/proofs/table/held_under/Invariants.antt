use Rattle.std.proofs.Common.{◌≡◌, ◌++◌}
use Rattle.std.specs.Prelude.{map}
use Rattle.share_store.specs.Shelf.{held_by}
use Rattle.share_store.proofs.HeldLaws.{share_of}
use Rattle.share_store.proofs.table.held_under.Given as goal

abbrev pub invariant-loop-key : goal.invariant-loop-key
invariant-loop-key g l = l.found.items ++ map (share_of g.T.HasDigest.digest_of) l.key-iterator ≡ held_by g.T.HasDigest.digest_of l.index l.closed.entries
