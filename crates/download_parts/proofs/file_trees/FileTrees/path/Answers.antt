use Rattle.std.proofs.Common.{◌≡◌, ℕ, List, Some, IfOk, IfSome, subst}
use Rattle.merkle.specs.Path.{LeadsBy}
use Rattle.share_layout.specs.Geometry.{segment_count}
use Rattle.download_parts.specs.Trees.{FileTreesState, known_leaf}
use Rattle.download_parts.proofs.file_trees.FileTrees.path.Goals as goal

pub returns-clause-leads : goal.returns-clause-leads
returns-clause-leads c =
    let p = c.self.inside.ciphertext in
    let segment = c.args.segment in
    let leads = subst
    (λ n. IfOk c.path.result (λ path. IfSome path (λ siblings. (hash : List ℕ) → known_leaf p segment ≡ Some hash → LeadsBy n p.root segment hash siblings.items)))
    c.self.invariant.ciphertext.leaves c.path.ensures.leads in
    subst
    (λ (t : FileTreesState). IfOk c.path.result (λ path. IfSome path (λ siblings. (hash : List ℕ)
    → known_leaf t.ciphertext segment ≡ Some hash → LeadsBy (segment_count t.geometry) t.ciphertext.root segment hash siblings.items)))
    c.self.view_is leads
