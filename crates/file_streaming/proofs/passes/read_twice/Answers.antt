use Rattle.std.proofs.Common.{subst}
use Rattle.share_layout.specs.Geometry.{Geometry}
use Rattle.sources.specs.Source.{HasFailedMore}
use Rattle.file_streaming.specs.KeyReading.{IsKeyRead}
use Rattle.file_streaming.proofs.TwoPasses.{other_pass_differs}
use Rattle.file_streaming.proofs.passes.read_twice.Goals as goal

pub returns-clause-changed : goal.returns-clause-changed
returns-clause-changed g c = λ e.
    let geometry : Geometry = c.args.geometry.now in
    let read : IsKeyRead g.S.Source.gives geometry.size c.args.source.now geometry.needed geometry.total geometry.segment_size c.args.secret.now c.in_ok-key.key c.read_key.new.source =
    subst (λ n. IsKeyRead g.S.Source.gives n c.args.source.now geometry.needed geometry.total geometry.segment_size c.args.secret.now c.in_ok-key.key c.read_key.new.source) c.size.ensures.value
    (c.in_ok-key.ensures.key geometry.needed geometry.total geometry.segment_size c.args.secret.now c.key_hasher-hasher.ensures) in
    other_pass_differs g.S.Source.gives c.args.source.now c.read_key.new.source c.read_again.new.source geometry c.args.secret.now c.in_ok-key.key read.file read.pass read.key_is
    (c.read_again.ensures.changed e)

pub returns-clause-fault : goal.returns-clause-fault
returns-clause-fault g c = λ e.
    subst (λ n. HasFailedMore n (g.S.Source.failures c.read_again.new.source)) c.in_ok-key.ensures.failures (c.read_again.ensures.fault e)
