use Rattle.std.proofs.Common.{◌≡◌, ◌+◌, ◌<◌, ℕ, length, map}
use Rattle.proved_parts.specs.Decoding.{DecodesBlocks}
use Rattle.download_segments.specs.Decoding.{blocks_in}
use Rattle.download_segments.proofs.group.decode_row.Given as goal
use Rattle.download_segments.specs.GroupMaking.{nth}

abbrev pub invariant-loop-row : goal.invariant-loop-row
invariant-loop-row l =
    let d = l.group.decoding in
    record {
      position : l.position ≡ l.number + l.row-index;
      count : length l.segments.items ≡ l.row-index;
      decodes : (i : ℕ) → i < l.row-index → DecodesBlocks d.geometry d.numbers
          (blocks_in d.geometry (l.number + i) (nth (map (λ r. r.items) l.rows) i)) (l.number + i) (nth (map (λ s. s.items) l.segments.items) i);
    }
