-- What was tested of a file stays so, and tells of an inconsistent file that it is no code word.
use Rattle.std.proofs.Common.{ℕ, ◌<◌, List, length, refl, sym, subst, ap, ◌∙◌}
use Rattle.lemmas.proofs.Members.{contains_at}
use Rattle.tagged_hash.specs.TaggedHash.{tagged_input}
use Rattle.tagged_hash.specs.declared.tag.Tag.TheVariants.{Block}
use Rattle.merkle.specs.Known.{IsKnownInput}
use Rattle.merkle.specs.Partial.{PartialState}
use Rattle.share_layout.specs.Geometry.{segment_count}
use Rattle.share_layout.specs.Pieces.{block_length}
use Rattle.download_parts.specs.Trees.{KnowsAllOf}
use Rattle.download_supply.specs.Taking.{IsProved}
use Rattle.download_segments.proofs.HandoutLemmas.{next_within}
use Rattle.download_file.specs.State.{numbers_of}
use Rattle.download_file.specs.Answers.{blocks_of}
use Rattle.download_file.specs.Steps.{AreProved, AreReady}
use Rattle.download_file.specs.Tested.{InconsistentIsNoCodeWord, IsTested, TestedStays, block_node, ciphertext_node, right_block, share_node}
use Rattle.download_file.proofs.GrowLemmas.{block_stays, has_answers, right_keeps, right_stays, same_block}
use Rattle.download_file.proofs.MakeLemmas.{live_numbers, no_code_word_in, nth_own}

pub inconsistent_is_no_code_word : InconsistentIsNoCodeWord
inconsistent_is_no_code_word entries f is read k =
    let size : ℕ = block_length f.handout.geometry k.number in
    let there : k.number < segment_count f.handout.geometry = next_within f.handout k.number is.handout k.next in
    let ready : AreReady f.readers f.live k.number = λ position r live at. (k.right position r live at).ready in
    let joined : List ℕ = blocks_of entries f.readers k.number f.live in
    let proved : AreProved f.readers f.live k.number joined size (length f.live) = λ j position r low at at_reader.
    subst (IsProved r.supply k.number) (sym (nth_own entries f k.number size is read there refl ready j position r at at_reader)) (k.right position r (contains_at f.live j position at) at_reader).proved in
    no_code_word_in entries f k.number size is read there refl ready joined refl proved (IsTested entries f)
    (λ input known. share_node known)
    (λ position r tree live at is_tree input known. block_node position r tree at is_tree known)
    (λ position r live at. right_block position r k.number at (k.right position r live at) refl)
    (numbers_of f.readers f.live) k.segment refl (live_numbers f is k.enough) k.decodes k.refuted
    (λ input known. ciphertext_node known)

-- ---- what was tested stays so

known_grows : (p q : PartialState) (input : List ℕ) → KnowsAllOf p q → IsKnownInput p input → IsKnownInput q input
known_grows p q input grows k = record {
  number = k.number;
  left = k.left;
  right = k.right;
  knows_left = grows.known _ k.left k.knows_left;
  knows_right = grows.known _ k.right k.knows_right;
  is = k.is;
}

pub tested_stay : TestedStays
tested_stay old new f g input keeps read same (right_block position r number at right is) =
    let goes = same.readers position r at in
    let kept = right_keeps old new f keeps read position r number at right in
    right_block position goes.now number goes.there (right_stays new r goes.now number goes.supply kept)
    (is ∙ ap (tagged_input Block) (sym (block_stays new r.supply goes.now.supply number goes.supply right.ready.held ∙ same_block old new r.supply number keeps (has_answers old r (read.held position r at)))))
tested_stay old new f g input keeps read same (share_node k) = share_node (known_grows f.handout.trees.shares g.handout.trees.shares input same.trees.shares k)
tested_stay old new f g input keeps read same (ciphertext_node k) = ciphertext_node (known_grows f.handout.trees.ciphertext g.handout.trees.ciphertext input same.trees.ciphertext k)
tested_stay old new f g input keeps read same (block_node position r tree at is k) =
    let goes = same.readers position r at in
    let grown = goes.supply.tree tree is in
    block_node position goes.now grown.0 goes.there grown.1 (known_grows tree grown.0 input grown.2 k)
