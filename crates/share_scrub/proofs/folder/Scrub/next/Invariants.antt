use Rattle.std.proofs.Common.{◌≡◌, ◌++◌, List, length}
use Rattle.share_files.specs.declared.name.ShareFile.{ShareFile}
use Rattle.share_scrub.proofs.folder.Scrub.next.Given as goal

-- the files that stood behind those that are left were passed over, and none of them was whole
abbrev pub invariant-loop-file : goal.invariant-loop-file
invariant-loop-file g l = ((passed : List ShareFile) × (l.fn.self.left ≡ l.self.left ++ passed)) × (l.self.whole ≡ l.fn.self.whole)

abbrev pub decreases-loop-file : goal.decreases-loop-file
decreases-loop-file g l = length l.self.left
