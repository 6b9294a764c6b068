use Rattle.std.proofs.Common.{rules, ◌≡◌, ℕ, ◌+◌, ◌*◌, ◌<◌, ◌≤◌, List, ◌++◌, length, ap, subst, sym, ◌∙◌, arith}
use Rattle.std.specs.Vec.{with_items}
use Rattle.std.proofs.lemmas.List.{length-replicate}
use Rattle.share_layout.specs.Geometry.{block_size, share_data_size, tree_size}
use Rattle.share_layout.specs.Layout.{header_size, layout_of}
use Rattle.share_verify.specs.Pieces.{joined}
use Rattle.block_making.specs.Making.{ArePut, AreSlots, HaveBlocks, IsMaking, IsPieceOf, Making, making_with}
use Rattle.share_gathering.specs.Groups.{at_once}
use Rattle.share_gathering.specs.Kept.{IsKept}
use Rattle.share_gathering.specs.KeptFile.{GivesKept, IsKeptOf, KeptFile, kept_length, kept_with}
use Rattle.share_gathering.specs.declared.kept.Kept.TheInside.{Inside}
use Rattle.block_making.proofs.MadeBlocks.{same_error}
use Rattle.block_making.proofs.PieceTexts.{piece-zeros, zeros}
use Rattle.share_gathering.proofs.GroupSteps.{eight_lanes}
use Rattle.share_gathering.proofs.Sections.{blocks_of_any, is_making, share_short, texts_of}
use Rattle.share_gathering.proofs.kept.Kept.piece.Goals as goal

-- what contracts see of the fields
abbrev seen : Inside → KeptFile
seen i = kept_with i.geometry i.encoder.cipher i.extension_block.items i.ciphertext_tree i.block_trees.items i.digests.items

-- what makes the blocks of a share
abbrev making : Inside → ℕ → List (List (List ℕ)) → Making
making i share leaves = making_with i.geometry i.encoder.cipher leaves share

pub new-maker-requires : goal.new-maker-requires
new-maker-requires g c =
    let i : Inside = c.self.inside in
    let kept = c.self.invariant.kept in
    let low : c.args.share < i.geometry.total =
    omega (arith, c.requires.number, kept.digests, ap (λ (p : KeptFile). length p.digests) c.self.view_is) in
    subst (λ (l : List (List (List ℕ))). IsMaking (making i c.args.share l) i.encoder.code) (sym c.deref.ensures.value)
    (is_making (seen i) (texts_of i.share_hashes.items) i.encoder i.buffers kept c.args.share low)

-- buffers keep their lengths when bytes are written into them
kept_again : (i : Inside) (segment lanes : List ℕ) → IsKept (seen i) (texts_of i.share_hashes.items) i.encoder i.buffers
    → IsKept (seen i) (texts_of i.share_hashes.items) i.encoder (record { segments = with_items i.buffers.segments segment; lanes = with_items i.buffers.lanes lanes })
kept_again i segment lanes kept = record {
  bytes = kept.bytes;
  of = kept.of;
  valid = kept.valid;
  tree = kept.tree;
  short = kept.short;
  digests = kept.digests;
  hashes_are = kept.hashes_are;
  cipher = kept.cipher;
  needed = kept.needed;
  total = kept.total;
  buffers = record {
    segments = sym (with_items i.buffers.segments segment).ok.0 ∙ i.buffers.segments.ok.0 ∙ kept.buffers.segments;
    lanes = sym (with_items i.buffers.lanes lanes).ok.0 ∙ i.buffers.lanes.ok.0 ∙ kept.buffers.lanes;
  };
}

pub put_blocks-requires-clause-lanes : goal.put_blocks-requires-clause-lanes
put_blocks-requires-clause-lanes g c =
    let i : Inside = c.self.inside in
    let lanes : List ℕ = c.deref_mut-2.result.now in
    let same : c.new-maker.result ≡ making i c.args.share i.block_trees.items = c.new-maker.ensures ∙ ap (making i c.args.share) c.deref.ensures.value in
    let long : length lanes ≡ 8 * (at_once i.geometry * block_size i.geometry) = ap length c.deref_mut-2.ensures.value ∙ c.self.invariant.kept.buffers.lanes in
    subst (λ (m : Making). 8 * block_size m.geometry ≤ length lanes) (sym same) (subst (λ n. 8 * block_size i.geometry ≤ n) (sym long) (eight_lanes i.geometry))

pub invariant_of-self : goal.invariant_of-self
invariant_of-self g c =
    let i : Inside = c.self.inside in
    let same : c.new-maker.result ≡ making i c.args.share i.block_trees.items = c.new-maker.ensures ∙ ap (making i c.args.share) c.deref.ensures.value in
    record {
      kept = kept_again i c.put_blocks.new.segment c.put_blocks.new.lanes c.self.invariant.kept;
      verified = subst (λ (m : Making). AreSlots m.geometry m.leaves c.put_blocks.new.slots) same c.put_blocks.ensures.slots;
    }

pub invariant_of-self-2 : goal.invariant_of-self-2
invariant_of-self-2 g c =
    let i : Inside = c.self.inside in
    let same : c.new-maker.result ≡ making i c.args.share i.block_trees.items = c.new-maker.ensures ∙ ap (making i c.args.share) c.deref.ensures.value in
    record {
      kept = kept_again i c.put_blocks.new.segment c.put_blocks.new.lanes c.self.invariant.kept;
      verified = subst (λ (m : Making). AreSlots m.geometry m.leaves c.put_blocks.new.slots) same c.put_blocks.ensures.slots;
    }

pub put_blocks-requires-clause-inside : goal.put_blocks-requires-clause-inside
put_blocks-requires-clause-inside g c =
    let i : Inside = c.self.inside in
    omega (
      arith,
      c.requires.inside,
      c.fill.ensures.len,
      share_short (seen i) (texts_of i.share_hashes.items) i.encoder i.buffers c.self.invariant.kept,
      ap (λ (p : KeptFile). kept_length p) c.self.view_is,
    )

pub returns-in_err-put_blocks-clause-changed : goal.returns-in_err-put_blocks-clause-changed
returns-in_err-put_blocks-clause-changed g c = λ e bytes is.
    let i : Inside = c.self.inside in
    let blocks : HaveBlocks (making i c.args.share i.block_trees.items) bytes =
    λ share low. blocks_of_any (seen i) (texts_of i.share_hashes.items) i.encoder i.buffers c.self.invariant.kept share low bytes
    (subst (λ (k : KeptFile). IsKeptOf k bytes) (sym c.self.view_is) is) in
    let same : c.new-maker.result ≡ making i c.args.share i.block_trees.items = c.new-maker.ensures ∙ ap (making i c.args.share) c.deref.ensures.value in
    c.in_err-put_blocks.ensures.changed (same_error c.from_residual.result _ _ c.from_residual.ensures.1 e) bytes
    (subst (λ (m : Making). HaveBlocks m bytes) (sym same) blocks)

pub returns-clause-gives : goal.returns-clause-gives
returns-clause-gives g c =
    let i : Inside = c.self.inside in
    let same : c.new-maker.result ≡ making i c.args.share i.block_trees.items = c.new-maker.ensures ∙ ap (making i c.args.share) c.deref.ensures.value in
    let put : ArePut (making i c.args.share i.block_trees.items) c.args.offset c.fill.new.self c.put_blocks.new.out =
    subst (λ (m : Making). ArePut m c.args.offset c.fill.new.self c.put_blocks.new.out) same c.in_ok-put_blocks.ensures.put in
    let n : ℕ = length c.args.out.now in
    let front : List ℕ = zeros (header_size (layout_of i.geometry)) in
    let text : List ℕ = zeros (share_data_size i.geometry) in
    let rest : List ℕ = zeros (kept_length (seen i)) in
    let within : c.args.offset + n ≤ kept_length (seen i) = omega (arith, c.requires.inside, ap (λ (p : KeptFile). kept_length p) c.self.view_is) in
    let cleared : c.fill.new.self ≡ zeros n = c.fill.ensures.after (search rules) in
    let begun : IsPieceOf (front ++ text ++ (zeros (tree_size i.geometry) ++ rest)) c.args.offset c.fill.new.self =
    subst (λ (o : List ℕ). IsPieceOf (front ++ text ++ (zeros (tree_size i.geometry) ++ rest)) c.args.offset o) (sym cleared)
    (piece-zeros c.args.offset n (header_size (layout_of i.geometry)) (share_data_size i.geometry) (tree_size i.geometry) (kept_length (seen i)) (omega (arith, within))) in
    let long : length front ≡ header_size (layout_of i.geometry) = length-replicate (header_size (layout_of i.geometry)) 0 in
    let given : GivesKept (seen i) c.args.share c.args.offset c.put_sections.new.out = record {
      blocks = put.blocks;
      hashes = put.hashes;
      size = put.size;
      piece = c.put_sections.ensures front (joined put.blocks) rest long put.size
          (put.put front text (zeros (tree_size i.geometry) ++ rest) long (length-replicate (share_data_size i.geometry) 0) begun);
    } in
    subst (λ (p : KeptFile). GivesKept p c.args.share c.args.offset c.put_sections.new.out) c.self.view_is given
