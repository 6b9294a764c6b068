use Rattle.std.proofs.Common.{◌≡◌, ◌*◌, drop}
use Rattle.download_file.specs.Steps.{AreProved}
use Rattle.download_file.proofs.blocks.find_wrong.Given as goal

abbrev pub invariant-loop-position : goal.invariant-loop-position
invariant-loop-position l = record {
  rest : l.rest ≡ drop (l.position-index * l.size) l.joined;
  proved : AreProved l.readers l.positions l.number l.joined l.size l.position-index;
}
