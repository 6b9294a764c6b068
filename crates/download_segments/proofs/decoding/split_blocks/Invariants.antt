use Rattle.std.proofs.Common.{◌≡◌, ◌*◌, drop, map, take}
use Rattle.share_layout.specs.Pieces.{pieces}
use Rattle.download_segments.proofs.decoding.split_blocks.Given as goal

abbrev pub invariant-loop-number : goal.invariant-loop-number
invariant-loop-number l = record {
  rest : l.rest ≡ drop (l.number-index * l.size) l.joined;
  numbers : map (λ b. b.0) l.blocks.items ≡ take l.number-index l.numbers;
  blocks : map (λ b. b.1.now) l.blocks.items ≡ pieces l.number-index l.size l.joined;
}
