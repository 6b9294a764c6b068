use Rattle.download_file.proofs.blocks.awaits_block.Given as goal

abbrev pub invariant-loop-position : goal.invariant-loop-position
invariant-loop-position l = Unit {0}
