use Rattle.std.proofs.Common.{◌∙◌, ap, map, subst, sym}
use Rattle.tagged_hash.specs.TaggedHash.{share_digest}
use Rattle.upload_core.specs.Pieces.{HaveOneLength}
use Rattle.upload_core.proofs.Goes.{if_ok, map_twice}
use Rattle.upload_core.proofs.pieces.WholeShares.digests.Goals as goal

pub digests_of-requires : goal.digests_of-requires
digests_of-requires c = subst HaveOneLength (ap (map (λ share. share.items)) (sym c.deref.ensures.value)) c.self.invariant

pub returns : goal.returns
returns c =
    if_ok c.digests_of.result _ _ (λ d e. e ∙ ap (map (λ share. share_digest share.items)) c.deref.ensures.value ∙ sym (map_twice share_digest (λ share. share.items) c.self.inside.shares.items) ∙ ap (map share_digest) c.self.view_is) c.digests_of.ensures
