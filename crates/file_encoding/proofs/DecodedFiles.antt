-- What a decoded file gives.
use Rattle.std.proofs.Common.{◌≡◌, List, ℕ, length, take, ap, sym, subst, ◌∙◌}
use Rattle.cap_text.specs.Cap.{VerifyCapValue}
use Rattle.std.proofs.lemmas.List.{length-map}
use Rattle.std.proofs.lemmas.List.FromFn.{length-map-range_with_len}
use Rattle.tagged_hash.specs.TaggedHash.{tagged_hash}
use Rattle.tagged_hash.specs.declared.tag.Tag.TheVariants.{CiphertextSegment}
use Rattle.share_layout.specs.Geometry.{Geometry, segment_count}
use Rattle.share_layout.specs.Pieces.{segment_at, segment_length}
use Rattle.file_encoding.specs.Decoded.{AreMade, DecodedState, IsDecodedFrom, IsWholeText}
use Rattle.file_encoding.specs.Reading.{GivesCiphertext, IsDecoded, blocks_in, numbers_of}
use Rattle.file_encoding.specs.Regenerated.{AreRegenerated, CannotRegenerate, DecodeTo, GivePadded, other_root}
use Rattle.file_encoding.specs.Padded.{padded_leaves, padded_shares, plain_segments}
use Rattle.merkle.specs.Tree.{tree_root}
use Rattle.proved_parts.specs.FileOf.{segment_hashes}
use Rattle.file_encoding.proofs.PlainText.{cut_decoded}

-- a decoded file has a leaf for each segment
pub leaf_count : (d : DecodedState) → IsWholeText d → length d.leaves ≡ segment_count d.geometry
leaf_count d whole =
    let plain : ℕ → List ℕ = λ number. take (segment_length d.geometry number) (segment_at d.geometry number d.text) in
    ap length (sym whole.leaves_are) ∙ length-map (plain_segments d.geometry d.text) (tagged_hash CiphertextSegment)
    ∙ length-map-range_with_len plain 0 (segment_count d.geometry)

module _ (cap : VerifyCapValue) (numbers : List ℕ) (strings : List (List ℕ)) (d : DecodedState) (whole : IsWholeText d) (from : IsDecodedFrom cap numbers strings d) where
  -- its ciphertext is that of the shares that were taken
  pub gives_ciphertext : GivesCiphertext cap numbers strings (take d.geometry.size d.text)
  gives_ciphertext =
      let these : List ℕ = numbers_of from.taken in
      let blocks : List (List ℕ) = blocks_in from.taken in
      let own : DecodeTo d.geometry these blocks d.text = subst (λ (g : Geometry). DecodeTo g these blocks d.text) (sym from.geometry) from.decoded in
      record {
        taken = from.taken;
        takes = from.takes;
        extension_block = d.extension_block;
        u = from.u;
        ueb = from.ueb;
        agree = from.agree;
        leaves = d.leaves;
        are_leaves = from.are_leaves;
        count = from.count;
        root = from.ciphertext_root;
        decoded =
            subst (λ (g : Geometry). IsDecoded g these blocks d.leaves (take d.geometry.size d.text)) from.geometry
            (cut_decoded d.geometry these blocks d.leaves d.text whole.valid own whole.leaves_are);
      }

  given : GivePadded cap from.taken d.extension_block from.u d.text
  given = record { ueb = from.ueb; agree = from.agree; decoded = from.decoded }

  -- the shares that are made of it are made of those that were taken
  pub regenerated : (made : List (List ℕ)) → AreMade d made → AreRegenerated cap numbers strings made
  regenerated made are = record {
    taken = from.taken;
    takes = from.takes;
    extension_block = d.extension_block;
    u = from.u;
    text = d.text;
    give = given;
    ciphertext_root =
        subst (λ (g : Geometry). tree_root (segment_hashes (plain_segments g d.text)) ≡ from.u.crypttext_root_hash) from.geometry
        (ap tree_root whole.leaves_are ∙ from.ciphertext_root);
    share_root =
        subst (λ (g : Geometry). tree_root (padded_leaves g d.text) ≡ from.u.share_root_hash) from.geometry (are.root ∙ from.share_root);
    are = subst (λ (g : Geometry). made ≡ padded_shares g d.text d.extension_block) from.geometry are.are;
  }

  -- where the root over them is another, none are made
  pub other_regenerated : ¬ (tree_root (padded_leaves d.geometry d.text) ≡ d.share_root) → CannotRegenerate cap numbers strings
  other_regenerated differs =
      other_root from.taken d.extension_block from.u d.text from.takes given
      (λ e. differs (subst (λ (g : Geometry). tree_root (padded_leaves g d.text) ≡ d.share_root) (sym from.geometry) (e ∙ sym from.share_root)))
