use Rattle.std.proofs.Common.{◌≡◌, take}
use Rattle.download_file.specs.Answers.{blocks_of}
use Rattle.download_file.proofs.blocks.join_blocks.Given as goal

abbrev pub invariant-loop-position : goal.invariant-loop-position
invariant-loop-position l = l.joined.items ≡ blocks_of l.requests.entries l.readers l.number (take l.position-index l.positions)
