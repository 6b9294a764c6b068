use Rattle.std.proofs.Common.{subst, arith}
use Rattle.share_gathering.specs.Kept.{IsKept}
use Rattle.share_gathering.specs.KeptFile.{KeptFile}
use Rattle.share_gathering.proofs.Sections.{texts_of}
use Rattle.share_gathering.proofs.kept.Kept.digests.Goals as goal

pub returns-clause-few : goal.returns-clause-few
returns-clause-few c =
    let p : KeptFile = c.args.self.now in
    let kept = subst (λ (p : KeptFile). IsKept p (texts_of c.self.inside.share_hashes.items) c.self.inside.encoder c.self.inside.buffers) c.self.view_is c.self.invariant.kept in
    omega (arith, kept.digests, kept.valid.shares)
