use Rattle.std.proofs.Common.{◌≡◌, ℕ, ◌<◌, List, [], length, get_or, inl, inr, ap, sym, subst, ◌∙◌, arith}
use Rattle.std.proofs.lemmas.List.{get_or_default}
use Rattle.merkle.proofs.PartialLemmas.{same_hash}
use Rattle.share_layout.specs.Geometry.{segment_count}
use Rattle.block_making.specs.Slots.{KeptBlock}
use Rattle.block_making.specs.Making.{IsBlock, Making, leaf_at, making_with}
use Rattle.block_making.proofs.MadeBlocks.{hash_count}
use Rattle.block_making.proofs.maker.BlockMaker.keep.Goals as goal

pub leaf-requires : goal.leaf-requires
leaf-requires c =
    let i = c.self.inside in
    let m : Making = making_with i.geometry i.encoder.now.cipher i.trees.now c.args.share in
    let low : c.args.share < i.geometry.total = omega (arith, c.requires.share, ap (λ (m : Making). m.geometry.total) c.self.view_is) in
    let there : c.from.result < length i.trees.now = omega (arith, c.from.ensures, low, c.self.invariant.count) in
    let tree : get_or i.trees.now c.from.result c.index-self-from.result ≡ get_or i.trees.now c.args.share [] =
    get_or_default i.trees.now c.from.result c.index-self-from.result [] there ∙ ap (λ n. get_or i.trees.now n []) c.from.ensures in
    omega (arith, c.requires.number, ap length tree, hash_count m c.self.invariant.file (c.self.invariant.blocks c.args.share low), ap (λ (m : Making). segment_count m.geometry) c.self.view_is)

pub returns-clause-slots : goal.returns-clause-slots
returns-clause-slots c =
    let i = c.self.inside in
    let m : Making = c.args.self.now in
    let low : c.args.share < i.geometry.total = omega (arith, c.requires.share, ap (λ (m : Making). m.geometry.total) c.self.view_is) in
    let there : c.from.result < length i.trees.now = omega (arith, c.from.ensures, low, c.self.invariant.count) in
    let tree : get_or i.trees.now c.from.result c.index-self-from.result ≡ get_or i.trees.now c.args.share [] =
    get_or_default i.trees.now c.from.result c.index-self-from.result [] there ∙ ap (λ n. get_or i.trees.now n []) c.from.ensures in
    let is : IsBlock m.geometry m.leaves c.args.share c.args.number c.args.block.now = record {
      long = c.requires.long;
      hash = sym c.requires.hash ∙ same_hash c.args.hash.now c.leaf.result c.ne.result c.ne.ensures c.if-ne.false ∙ c.leaf.ensures
          ∙ ap (λ (l : List (List ℕ)). get_or l c.args.number []) tree ∙ ap (λ (m : Making). leaf_at m.leaves c.args.share c.args.number) c.self.view_is;
    } in
    record {
      size = c.put.ensures.size ∙ c.requires.slots.size;
      verified = λ block keeps.
          elim (c.put.ensures.others block keeps) [
            | inl new ↦ subst (λ (k : KeptBlock). IsBlock m.geometry m.leaves k.share k.number k.bytes) (sym new) is
            | inr old ↦ c.requires.slots.verified block old
          ];
    }
