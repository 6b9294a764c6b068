use Rattle.std.proofs.Common.{◌≡◌, List, ℕ, Some, refl, subst}
use Rattle.merkle.specs.Inputs.{AreHashes}
use Rattle.merkle.specs.Path.{LeadsBy}
use Rattle.share_layout.specs.Geometry.{segment_count}
use Rattle.download_parts.specs.Trees.{known_leaf}
use Rattle.download_segments.specs.State.{HandoutState, ProvesSegment}
use Rattle.download_segments.proofs.TreeLemmas.{at_some, segment_by}
use Rattle.download_segments.proofs.handout.Handout.path_by_hash.Goals as goal

pub returns-clause-by : goal.returns-clause-by
returns-clause-by c =
    let h = c.args.self.now in
    let number = c.args.number in
    let path = c.in-Some.path.items in
    let proves : ProvesSegment h number c.args.segment.now = record { size = c.requires.long; known = c.if-not-has_hash.ensures.known.0 refl } in
    segment_by h number c.args.segment.now path c.has_hash.ensures.right c.requires.there proves
    (subst AreHashes c.deref.ensures.value c.know_hashes.ensures)
    (subst
    (λ (s : HandoutState). (hash : List ℕ) → known_leaf s.trees.ciphertext number ≡ Some hash → LeadsBy (segment_count s.trees.geometry) s.trees.ciphertext.root number hash path)
    c.self.view_is (at_some _ c.in_ok-path.field-0 c.in-Some.path c.in-Some.is c.in_ok-path.ensures.leads))
