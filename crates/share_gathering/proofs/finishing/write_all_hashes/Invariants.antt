use Rattle.std.proofs.Common.{◌≡◌, length, map, All}
use Rattle.std.specs.List.{range_with_len}
use Rattle.file_encoding.specs.Encoding.{share_hashes}
use Rattle.share_gathering.specs.Finishing.{hashes_length}
use Rattle.share_gathering.proofs.finishing.write_all_hashes.Given as goal

abbrev pub invariant-loop-number : goal.invariant-loop-number
invariant-loop-number l = record {
  value : map (λ h. h.items) l.hashes.items ≡ map (share_hashes l.tree) (range_with_len 0 l.number);
  long : All (λ h. length h.items ≡ hashes_length l.total) l.hashes.items;
}
