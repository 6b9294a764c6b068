use Rattle.std.proofs.Common.{◌≡◌, ℕ, List, ◌++◌, length, drop, replicate, ap, ◌∙◌, arith}
use Rattle.std.proofs.lemmas.List.{length-take-le, take_at}
use Rattle.tagged_hash.specs.TaggedHash.{tagged_hash}
use Rattle.file_encoding.proofs.Pieces.{values_of_pieces}
use Rattle.share_gathering.proofs.shares.add_leaves.Goals as goal

pub returns : goal.returns
returns c =
    let n : ℕ = c.args.count in
    let hashes : List (List ℕ) = c.tagged_pieces.new.hashes in
    let count : length hashes ≡ n = c.tagged_pieces.auto.hashes ∙ length-take-le n (replicate 8 (replicate 32 0)) c.requires in
    c.in_ok-extend_from_slice.ensures.items
    ∙ ap (λ (l : List (List ℕ)). c.args.leaves.now.items ++ l)
    (take_at hashes (drop n (replicate 8 (replicate 32 0))) n count
    ∙ values_of_pieces (tagged_hash c.args.tag) n c.args.size c.args.text.now hashes count
    (λ i below. c.tagged_pieces.ensures i (omega (arith, below, c.tagged_pieces.auto.hashes))))
