use Rattle.std.proofs.Common.{◌≡◌, ◌+◌, ◌<◌, ℕ, map}
use Rattle.download_supply.specs.Taking.{IsProved}
use Rattle.download_segments.specs.GroupMaking.{nth, nth_block}
use Rattle.download_file.proofs.row.are_proved.Given as goal

abbrev pub invariant-loop-hash : goal.invariant-loop-hash
invariant-loop-hash l = record {
  position : l.position ≡ l.number + l.hash-index;
  proved : (i : ℕ) → i < l.hash-index → IsProved l.supply (l.number + i) (nth_block (nth (map (λ r. r.items) l.rows) i) l.size l.k);
}
