use Rattle.std.proofs.Common.{◌≡◌, map}
use Rattle.file_encoding.specs.Blocks.{finished}
use Rattle.file_encoding.proofs.shares.finish_shares.Given as goal

abbrev pub invariant-loop-share : goal.invariant-loop-share
invariant-loop-share l = l.shares.items ≡ map (λ b. finished l.share_tree l.extension_block b.draft) l.yielded
