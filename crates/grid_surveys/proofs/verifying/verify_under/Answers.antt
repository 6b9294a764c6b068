use Rattle.grid_surveys.proofs.VerifyLemmas.{same_fingerprint}
use Rattle.grid_surveys.proofs.verifying.verify_under.Goals as goal

pub returns-clause-fingerprint : goal.returns-clause-fingerprint
returns-clause-fingerprint g c =
    same_fingerprint c.args.catalogue.head c.head.result.now c.args.secret.now c.fingerprint.result c.ne.result c.verify_lines.result c.head.ensures c.fingerprint.ensures c.ne.ensures c.if-ne.false
