use Rattle.std.proofs.Common.{◌≡◌}
use Rattle.tests_download_parts.proofs.share_tests.refuses_changed_hashes.Given as goal

abbrev pub invariant-loop-offset : goal.invariant-loop-offset
invariant-loop-offset l = l.trees.geometry ≡ l.geometry
