use Rattle.std.proofs.Common.{ℕ, List, ap, inr, subst, ◌∙◌, Err}
use Rattle.share_layout.specs.Layout.{offsets_of}
use Rattle.download_parts.specs.Refusal.{IsHashesRefusal}
use Rattle.download_parts.specs.Trees.{FileTreesState, starting_trees}
use Rattle.share_source.proofs.Roots.{root_known}
use Rattle.share_source.proofs.leaves.read_root.Goals as goal

pub returns-in-Ok-clause-root : goal.returns-in-Ok-clause-root
returns-in-Ok-clause-root g c =
    let there = ap (λ o. o.share_hashes) (c.of-offsets.ensures.offsets ∙ ap offsets_of c.geometry_of-geometry.ensures) in
    let is = c.in_ok-trees.ensures.trees ∙ ap (starting_trees c.args.ueb.now) c.geometry_of-geometry.ensures in
    root_known g.B.ShareBytes.gives c.args.ueb.now c.args.position c.args.number c.of-offsets.result.share_hashes c.args.bytes.now c.read_bytes.new.bytes c.in-Some.hashes.items
    c.in_ok-trees.trees c.in-Ok.tree there is (rw c.in-Some.is at c.in_ok-hashes.ensures.read) c.in-Ok.ensures.block_root c.in-Ok.ensures.tree

pub returns-in-Err-Check-clause-none : goal.returns-in-Err-Check-clause-none
returns-in-Err-Check-clause-none g c =
    let there = ap (λ o. o.share_hashes) (c.of-offsets.ensures.offsets ∙ ap offsets_of c.geometry_of-geometry.ensures) in
    let is = c.in_ok-trees.ensures.trees ∙ ap (starting_trees c.args.ueb.now) c.geometry_of-geometry.ensures in
    let check = c.in-Err-Check.field-0-0 in
    let hashes : List ℕ = c.in-Some.hashes.items in
    let refused = c.in-Err-Check.ensures.refused check (ap (λ e. Err e) c.in-Err-Check.field-0-is) in
    inr (
      hashes,
      check,
      subst (λ (n : ℕ). g.B.ShareBytes.gives c.args.bytes.now c.args.position n hashes c.read_bytes.new.bytes) there (rw c.in-Some.is at c.in_ok-hashes.ensures.read),
      subst (λ (t : FileTreesState). IsHashesRefusal t c.args.number hashes check) is (subst (λ (h : List ℕ). IsHashesRefusal c.in_ok-trees.trees c.args.number h check) c.deref.ensures.value refused),
    )
