use Rattle.std.proofs.Common.{◌≡◌, ◌*◌, length, take}
use Rattle.file_encoding.specs.Blocks.{numbered}
use Rattle.share_gathering.proofs.finishing.write_numbered.Given as goal

abbrev pub invariant-loop-number : goal.invariant-loop-number
invariant-loop-number l = record {
  value : l.bytes.items ≡ numbered l.nodes (take l.number-index l.numbers);
  long : length l.bytes.items ≡ 34 * l.number-index;
}
