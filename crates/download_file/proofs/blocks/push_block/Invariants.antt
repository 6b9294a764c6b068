use Rattle.std.proofs.Common.{◌≡◌, ◌-◌, ◌++◌, List, ℕ, drop, length, map, take}
use Rattle.std.specs.List.{concat}
use Rattle.download_supply.specs.Blocks.{block_offset}
use Rattle.download_file.specs.Answers.{answer_at}
use Rattle.download_file.proofs.blocks.push_block.Given as goal

abbrev pub invariant-loop-position : goal.invariant-loop-position
invariant-loop-position l =
    let offset = block_offset l.supply.geometry l.supply.first l.number in
    let read : List ℕ = concat (map (answer_at l.requests.entries) (take l.position-index l.position-items)) in
    record {
      joined : l.joined.items ≡ l.initial.joined.items ++ take l.size (drop offset read);
      left : l.left ≡ l.size - length (drop offset read);
      skipped : l.skipped ≡ offset - length read;
    }
