use Rattle.std.proofs.Common.{◌≡◌}
use Rattle.std.proofs.lemmas.List.Sorted.{All-permutation}
use Rattle.share_files.specs.declared.name.ShareFile.{ShareFile}
use Rattle.share_files.proofs.files.files_of.Goals as goal

pub returns-clause-index : goal.returns-clause-index
returns-clause-index g c = All-permutation (λ (f : ShareFile). f.key.0 ≡ c.args.index.now) c.loop-entry.files.items c.sort_unstable.new.self.items c.sort_unstable.ensures.permutation c.loop-entry.invariant.2
