use Rattle.std.proofs.Common.{Err, ap, refl}
use Rattle.grid_surveys.specs.Verifies.{unread}
use Rattle.grid_surveys.proofs.VerifyLemmas.{lines_read}
use Rattle.grid_surveys.proofs.verifying.verify_files.Goals as goal

pub returns-in-Ok-clause-done : goal.returns-in-Ok-clause-done
returns-in-Ok-clause-done g c = lines_read _ c.args.environment.now.secret_file c.args.words.now _ c.in_ok-secret.secret.items _ c.in-Ok.catalogue.head c.in-Ok.catalogue.left c.verify_under.result _ _ c.in-Ok.ensures.head c.in_ok-secret.ensures.under c.deref-in-Ok-2.ensures.value c.verify_under.ensures.fingerprint c.verify_under.ensures.done

pub returns-clause-done : goal.returns-clause-done
returns-clause-done g c = unread _ (c.in-Err.ensures.refused.0 (ap Err c.in-Err.ensures.fault)) refl refl
