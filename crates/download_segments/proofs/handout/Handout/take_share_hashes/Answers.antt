use Rattle.std.proofs.Common.{◌≡◌, Err, subst}
use Rattle.share_verify.specs.declared.check.Check.{Check}
use Rattle.download_parts.specs.declared.error.TreeFault.TheVariants as faults
use Rattle.download_parts.specs.Offers.{share_hashes_offered}
use Rattle.download_parts.specs.Refusal.{IsHashesRefusal}
use Rattle.download_segments.specs.State.{HandoutState, TreesGrow}
use Rattle.download_segments.proofs.TreeLemmas.{grown_shares}
use Rattle.download_segments.proofs.handout.Handout.take_share_hashes.Goals as goal

pub returns-clause-refused : goal.returns-clause-refused
returns-clause-refused c =
    subst (λ (h : HandoutState). (check : Check) → c.take_share_hashes.result ≡ Err (faults.Check check) → IsHashesRefusal h.trees c.args.share c.args.bytes.now check)
    c.self.view_is c.take_share_hashes.ensures.refused

pub returns-clause-grow : goal.returns-clause-grow
returns-clause-grow c =
    let e = c.take_share_hashes.ensures in
    let t = c.self.inside.trees in
    subst (λ (h : HandoutState). TreesGrow h.trees c.take_share_hashes.new.self) c.self.view_is
    (grown_shares c.take_share_hashes.result t c.take_share_hashes.new.self (share_hashes_offered t.geometry.total c.args.share c.args.bytes.now) e.taken e.other e.unchanged)
