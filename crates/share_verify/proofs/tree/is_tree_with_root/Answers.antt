use Rattle.std.proofs.Common.{sym, ◌∙◌}
use Rattle.std.proofs.lemmas.Bool.{true≢false}
use Rattle.std.proofs.lemmas.Bool.Decides.{Decides-eqb}
use Rattle.std.proofs.lemmas.Slice.Eq.{slice_eq-Decides}
use Rattle.share_verify.proofs.SectionLemmas.{root_with_root, tree_with_root, with_root}
use Rattle.share_verify.proofs.tree.is_tree_with_root.Goals as goal

pub returns-then-is_tree_section : goal.returns-then-is_tree_section
returns-then-is_tree_section c =
    let n = c.args.leaf_count in
    let root = c.args.root.now in
    let section = c.args.section.now in
    let decides = slice_eq-Decides Decides-eqb c.root_in.result.now root c.eq.result c.eq.ensures in (
      λ yes. with_root n root section (c.is_tree_section.ensures.0 c.if-is_tree_section.true) (sym c.root_in.ensures ∙ decides.0 yes),
      λ held. decides.1 (c.root_in.ensures ∙ root_with_root n root section held),
    )

pub returns-else-is_tree_section : goal.returns-else-is_tree_section
returns-else-is_tree_section c =
    let n = c.args.leaf_count in
    let root = c.args.root.now in
    let section = c.args.section.now in (
      λ yes. absurd (true≢false (sym yes ∙ c.if-is_tree_section.false)),
      λ held. c.is_tree_section.ensures.1 (tree_with_root n root section held),
    )
