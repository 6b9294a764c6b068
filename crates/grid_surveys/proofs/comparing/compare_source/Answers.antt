use Rattle.std.proofs.Common.{IfOk, subst, sym}
use Rattle.cap_text.specs.declared.cap.Cap.{Cap}
use Rattle.grid_surveys.specs.Verdicts.{IsOfSource}
use Rattle.grid_surveys.proofs.comparing.compare_source.Goals as goal

pub returns-in-Chk : goal.returns-in-Chk
returns-in-Chk g c = subst (λ (x : Cap). IfOk c.compare_read.result (IsOfSource g.S.Source.gives (g.S.Source.size c.args.source) c.args.source c.args.comparing.now.secret.now c.args.comparing.now.max_segment x)) (sym c.in-Chk.is) c.compare_read.ensures

pub returns-in-Verify : goal.returns-in-Verify
returns-in-Verify g c = subst (λ (x : Cap). IfOk c.compare_verify.result (IsOfSource g.S.Source.gives (g.S.Source.size c.args.source) c.args.source c.args.comparing.now.secret.now c.args.comparing.now.max_segment x)) (sym c.in-Verify.is) c.compare_verify.ensures
