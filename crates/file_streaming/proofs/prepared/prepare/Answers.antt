use Rattle.std.proofs.Common.{ap, subst, ◌∙◌}
use Rattle.share_layout.specs.Geometry.{geometry_of}
use Rattle.file_encoding.specs.Encoding.{Parameters}
use Rattle.file_encoding.specs.Params.{IsEncodable, parameters_of}
use Rattle.file_streaming.proofs.SecondPass.{told-again}
use Rattle.file_streaming.proofs.TwoPasses.{differ_for, prepared_from}
use Rattle.file_streaming.proofs.prepared.prepare.Goals as goal

pub returns-clause-prepared : goal.returns-clause-prepared
returns-clause-prepared g c =
    let q : Parameters = parameters_of c.args.params.now in
    let two = c.in_ok-passes.ensures.passes in
    prepared_from g.S.Source.gives (g.S.Source.size c.args.source.now) c.args.source.now c.read_twice.new.source c.args.secret.now q c.in_ok-geometry.geometry c.in_ok-passes.passes
    c.in_ok-keep.field-0 (c.in_ok-geometry.ensures.given ∙ ap (λ n. geometry_of n q.needed q.total q.max_segment) c.len.ensures) two
    (c.in_ok-keep.ensures two.after.file two.after.of_file)

pub returns-clause-early : goal.returns-clause-early
returns-clause-early g c = λ none. absurd (none (subst (λ n. IsEncodable n c.args.params.now) c.len.ensures c.in_ok-geometry.ensures.fits))

pub returns-in_err-passes-clause-changed : goal.returns-in_err-passes-clause-changed
returns-in_err-passes-clause-changed g c = λ e.
    let q : Parameters = parameters_of c.args.params.now in
    differ_for g.S.Source.gives (g.S.Source.size c.args.source.now) c.args.source.now c.read_twice.new.source c.args.secret.now q c.in_ok-geometry.geometry
    (c.in_ok-geometry.ensures.given ∙ ap (λ n. geometry_of n q.needed q.total q.max_segment) c.len.ensures)
    (c.in_err-passes.ensures.changed (told-again c.from_residual-in_err-passes.result _ _ c.from_residual-in_err-passes.ensures.1 e))
