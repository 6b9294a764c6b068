use Rattle.std.specs.Prelude.{⊤}
use Rattle.share_folders.proofs.listing.has_readonly.Given as goal

abbrev pub invariant-loop-name : goal.invariant-loop-name
invariant-loop-name l = ⊤
