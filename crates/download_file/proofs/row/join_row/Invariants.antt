use Rattle.std.proofs.Common.{◌≡◌, ◌+◌, ◌<◌, ℕ, length, map}
use Rattle.download_segments.specs.GroupMaking.{nth}
use Rattle.download_file.specs.Answers.{blocks_of}
use Rattle.download_file.proofs.row.join_row.Given as goal

abbrev pub invariant-loop-i : goal.invariant-loop-i
invariant-loop-i l = record {
  count : length l.rows.items ≡ l.i;
  rows : (j : ℕ) → j < l.i → nth (map (λ r. r.items) l.rows.items) j ≡ blocks_of l.requests.entries l.readers (l.number + j) l.positions;
}
