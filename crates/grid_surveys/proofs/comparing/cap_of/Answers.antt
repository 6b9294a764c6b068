use Rattle.std.proofs.Common.{Err, ap, subst, sym}
use Rattle.grid_faults.specs.declared.fault.Fault.{Fault}
use Rattle.grid_surveys.specs.VerifyEnds.{IsWhyUnmade}
use Rattle.grid_surveys.proofs.VerifyLemmas.{why_unmade}
use Rattle.grid_surveys.proofs.comparing.cap_of.Goals as goal

pub returns-in-Ok-clause-made : goal.returns-in-Ok-clause-made
returns-in-Ok-clause-made g c = record { prepared = c.in-Ok.prepared; after = c.prepare.new.source; from = c.in-Ok.ensures.prepared; is = c.cap.ensures }

pub returns-clause-refused : goal.returns-clause-refused
returns-clause-refused g c =
    subst (λ (fault : Fault). IsWhyUnmade g.S.Source.gives g.S.Source.failures (g.S.Source.size c.args.source) c.args.source c.args.secret.now c.args.params.now fault) (sym c.fault_of_preparing.ensures)
    (why_unmade g.S.Source.gives g.S.Source.failures (g.S.Source.size c.args.source) c.args.source c.prepare.new.source c.args.secret.now c.args.params.now c.in-Err.error
    (λ e. c.in-Err.ensures.too_large (ap Err e)) (λ e. c.in-Err.ensures.too_many (ap Err e)) (λ e. c.in-Err.ensures.changed (ap Err e)) (λ e. c.in-Err.ensures.fault (ap Err e)))
