use Rattle.std.proofs.Common.{◌≡◌, ◌*◌, drop, length, map, take}
use Rattle.share_layout.specs.Pieces.{pieces}
use Rattle.share_source.specs.Candidates.{picked_numbers}
use Rattle.share_source.proofs.segment.pair_blocks.Given as goal

abbrev pub invariant-loop-i : goal.invariant-loop-i
invariant-loop-i l = record {
  count : length l.pairs ≡ 256;
  rest : l.rest ≡ drop (l.i * l.size) l.joined;
  numbers : map (λ b. b.0) (take l.i l.pairs) ≡ picked_numbers l.numbers (take l.i l.positions);
  blocks : map (λ b. b.1.now) (take l.i l.pairs) ≡ pieces l.i l.size l.joined;
}
