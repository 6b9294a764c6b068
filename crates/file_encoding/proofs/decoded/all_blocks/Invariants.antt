use Rattle.std.proofs.Common.{map, take}
use Rattle.file_encoding.specs.LowestShares.{HaveBlocks}
use Rattle.file_encoding.proofs.decoded.all_blocks.Given as goal

abbrev pub invariant-loop-position : goal.invariant-loop-position
invariant-loop-position l =
    HaveBlocks l.geometry (map (λ s. s.0) l.shares) (map (λ s. s.1.now) l.shares) (take l.position-index l.positions) (map (λ s. s.0) l.blocks.items) (map (λ s. s.1.now) l.blocks.items)
