use Rattle.std.proofs.Common.{◌≡◌, ℕ, ◌-◌, List, length, replicate, take, ap, subst, ◌∙◌}
use Rattle.std.proofs.lemmas.List.{length-map, take_at}
use Rattle.std.specs.Int.{div_ceil}
use Rattle.tagged_hash.specs.TaggedHash.{tagged_hash}
use Rattle.tagged_hash.specs.declared.tag.Tag.TheVariants.{Ciphertext, CiphertextSegment}
use Rattle.merkle.specs.Tree.{tree_nodes, tree_root}
use Rattle.ueb.specs.Shape.{rounded_up}
use Rattle.share_layout.specs.Geometry.{Geometry, segment_count}
use Rattle.share_layout.specs.Pieces.{segments_of}
use Rattle.proved_parts.specs.FileOf.{segment_hashes}
use Rattle.proved_parts.proofs.Files.{length-pieces}
use Rattle.tagged_hash.specs.Wholes.{AreGiven}
use Rattle.file_encoding.specs.BegunFiles.{AreBegun}
use Rattle.file_encoding.specs.Digests.{begun_bytes}
use Rattle.file_encoding.specs.Encoding.{padded_segment}
use Rattle.file_encoding.specs.declared.draft.Begun.{Begun}
use Rattle.file_encoding.proofs.Making.{count}
use Rattle.file_encoding.proofs.Padding.{length-padded}
use Rattle.file_encoding.proofs.encoding.begin_ciphertext.Goals as goal

pub begin_file-requires : goal.begin_file-requires
begin_file-requires c =
    let g : Geometry = c.args.geometry.now in
    let text : List ℕ = c.args.ciphertext.items in
    record {
      padded =
          ap length (c.deref-2.ensures.value ∙ c.in_ok-padded.ensures ∙ ap (λ (k : ℕ). padded_segment k text) c.needed.ensures.value)
          ∙ length-padded g.needed text c.needed.ensures.valid.some_needed ∙ ap (λ (n : ℕ). rounded_up n g.needed) c.requires;
      leaves =
          ap length (c.in_ok-ciphertext_tree.ensures ∙ ap (λ (x : List ℕ). segment_hashes (segments_of g x)) c.deref.ensures.value)
          ∙ length-map (segments_of g text) (tagged_hash CiphertextSegment) ∙ length-pieces (segment_count g) g.segment_size text;
    }

pub returns : goal.returns
returns c =
    let g : Geometry = c.args.geometry.now in
    let text : List ℕ = c.args.ciphertext.items in
    let tree : c.in_ok-ciphertext_tree.ciphertext_tree ≡ segment_hashes (segments_of g text) =
    c.in_ok-ciphertext_tree.ensures ∙ ap (λ (x : List ℕ). segment_hashes (segments_of g x)) c.deref.ensures.value in
    let padded : c.deref-2.result.now ≡ padded_segment g.needed text =
    c.deref-2.ensures.value ∙ c.in_ok-padded.ensures ∙ ap (λ (k : ℕ). padded_segment k text) c.needed.ensures.value in
    let begun : List Begun = c.in_ok-shares.shares.items in
    let all : length begun ≡ g.total = count g c.deref-2.result.now (tree_nodes c.in_ok-ciphertext_tree.ciphertext_tree) begun c.in_ok-shares.ensures in
    let plain : take c.size.result c.deref-3.result.now ≡ text =
    (λ p. take (c.size.ensures.value p) ((c.deref-3.ensures.value ∙ c.in_ok-padded.ensures) p))
    ∙ take_at text (replicate (rounded_up (length text) c.needed.result - length text) 0) g.size c.requires in
    record {
      valid = c.needed.ensures.valid;
      size = c.requires;
      whole = c.in_ok-hashed.ensures.ciphertext ∙ ap (tagged_hash Ciphertext) plain;
      root = c.root.ensures ∙ ap tree_root tree;
      shares =
          subst (λ (t : List ℕ). AreBegun g t (tree_nodes (segment_hashes (segments_of g text))) g.total c.in_ok-shares.shares.items) padded
          (subst (λ (leaves : List (List ℕ)). AreBegun g c.deref-2.result.now (tree_nodes leaves) g.total c.in_ok-shares.shares.items) tree c.in_ok-shares.ensures);
      groups = c.in_ok-hashed.ensures.groups ∙ ap (λ (n : ℕ). div_ceil n 7) (ap length c.deref-4.ensures.value ∙ all);
      given =
          subst (λ (n : ℕ). AreGiven n (begun_bytes begun) c.in_ok-hashed.hashed.wholes.items) all
          (subst (λ (b : List Begun). AreGiven (length b) (begun_bytes b) c.in_ok-hashed.hashed.wholes.items) c.deref-4.ensures.value c.in_ok-hashed.ensures.given);
    }
