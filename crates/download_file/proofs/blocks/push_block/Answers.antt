use Rattle.std.proofs.Common.{◌≡◌, ◌∙◌, ◌++◌, ◌+◌, ◌-◌, List, ℕ, ap, sym, take, drop, map, length}
use Rattle.std.specs.List.{concat}
use Rattle.std.proofs.lemmas.List.{append_assoc}
use Rattle.download_supply.specs.Blocks.{block_offset}
use Rattle.download_file.specs.Answers.{answer_at}
use Rattle.download_file.proofs.BlockLemmas.{counts_more, piece_taken, read_more}
use Rattle.download_file.proofs.blocks.push_block.Goals as goal

pub loop-position-preserved : goal.loop-position-preserved
loop-position-preserved c =
    let entries = c.args.requests.now.entries in
    let size : ℕ = c.args.size in
    let offset = block_offset c.args.supply.now.geometry c.args.supply.now.first c.args.number in
    let positions : List ℕ = c.block_positions-position-items.result.now in
    let i = c.loop-position.position-index in
    let k = c.loop-position.invariant in
    let bytes : List ℕ = c.answer_at-bytes.result.now in
    let read : List ℕ = concat (map (answer_at entries) (take i positions)) in
    let more : concat (map (answer_at entries) (take (i + 1) positions)) ≡ read ++ bytes = read_more entries positions i bytes c.loop-position-test.true c.answer_at-bytes.ensures in
    let counts = counts_more size offset read bytes c.loop-position.skipped c.loop-position.left c.min-from.result c.min-upto.result k.skipped k.left c.min-from.ensures c.min-upto.ensures in
    let taken = piece_taken size offset read bytes c.loop-position.skipped c.loop-position.left c.min-from.result c.min-upto.result k.skipped k.left c.min-from.ensures c.min-upto.ensures in
    let old : List ℕ = c.args.joined.now.items in
    let had : List ℕ = take size (drop offset read) in
    let adds : List ℕ = take (c.min-upto.result - c.min-from.result) (drop c.min-from.result bytes) in
    record {
      joined = c.in_ok-extend_from_slice.ensures.items ∙ ap (λ (l : List ℕ). l ++ adds) k.joined ∙ append_assoc old had adds
          ∙ ap (λ (l : List ℕ). old ++ l) (sym taken) ∙ ap (λ (l : List ℕ). old ++ take size (drop offset l)) (sym more);
      left = counts.0 ∙ ap (λ (l : List ℕ). size - length (drop offset l)) (sym more);
      skipped = counts.1 ∙ ap (λ (l : List ℕ). offset - length l) (sym more);
    }
