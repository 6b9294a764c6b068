use Rattle.std.proofs.Common.{◌≡◌, All, length}
use Rattle.tests_download_parts.proofs.row_tests.row.Given as goal

abbrev pub invariant-loop-i : goal.invariant-loop-i
invariant-loop-i l = record {
  count : length l.row.items ≡ l.i;
  long : All (λ s. length s.items ≡ l.size) l.row.items;
}
