use Rattle.std.proofs.Common.{◌≡◌, ℕ, List, ap, length, subst, sym, ◌∙◌, Err}
use Rattle.std.proofs.Common.{rules}
use Rattle.merkle.specs.Partial.{IsNotConsistent, Takes}
use Rattle.merkle.specs.Tree.{tree_root}
use Rattle.download_parts.specs.Offers.{offered_nodes}
use Rattle.share_source.proofs.Roots.{one_hash, root_refused, root_taken}
use Rattle.share_source.proofs.leaves.has_root.Goals as goal

pub returns-in-Ok-clause-yes : goal.returns-in-Ok-clause-yes
returns-in-Ok-clause-yes c _ =
    let root : List ℕ = c.root-root.result in
    let long : length root ≡ 32 = search rules in
    let taken = subst (λ (hs : List (List ℕ)). Takes c.args.tree.now (offered_nodes 0 0 hs) c.take_nodes.new.self) (one_hash root long) c.in-Ok.ensures.taken in
    sym (c.root-root.ensures ∙ ap tree_root c.in_ok-build.ensures) ∙ root_taken c.args.tree.now c.take_nodes.new.self root c.in-Ok.ensures.sound taken

pub returns-in-Err-Check-clause-no : goal.returns-in-Err-Check-clause-no
returns-in-Err-Check-clause-no c _ same =
    let root : List ℕ = c.root-root.result in
    let long : length root ≡ 32 = search rules in
    let refused = subst (λ (hs : List (List ℕ)). IsNotConsistent c.args.tree.now (offered_nodes 0 0 hs)) (one_hash root long) (c.in-Err-Check.ensures.refused c.in-Err-Check.field-0-0 (ap (λ e. Err e) c.in-Err-Check.field-0-is)).1 in
    root_refused c.args.tree.now root c.in-Err-Check.ensures.sound refused (c.root-root.ensures ∙ ap tree_root c.in_ok-build.ensures ∙ same)
