use Rattle.std.proofs.Common.{List, ℕ, ◌∙◌, arith}
use Rattle.std.proofs.lemmas.List.{take_at}
use Rattle.tagged_hash.specs.TaggedHash.{tagged_hash}
use Rattle.tagged_hash.specs.declared.tag.Tag.TheVariants.{CiphertextSegment}
use Rattle.file_encoding.proofs.Pieces.{values_of_pieces}
use Rattle.file_encoding.proofs.blocks.Segments.hashes.Goals as goal

pub returns-clause-hashes : goal.returns-clause-hashes
returns-clause-hashes c =
    let own = c.args.self.now in
    let hashes : List (List ℕ) = c.tagged_pieces.new.hashes in
    take_at hashes _ c.in_ok-hashes.hashes.len (omega (arith, c.in_ok-hashes.ensures.len))
    ∙ values_of_pieces (tagged_hash CiphertextSegment) own.count own.size own.text.now hashes (omega (arith, c.in_ok-hashes.ensures.len))
    (λ i below. c.tagged_pieces.ensures i (omega (arith, below)))
