use Rattle.std.proofs.Common.{◌∙◌, ap}
use Rattle.server_core.specs.ServerState.{ServerState}
use Rattle.server_core.specs.Buckets.{bucket_at}
use Rattle.server_core.proofs.Owners.{own_line, others_stay}
use Rattle.server_core.proofs.server.Server.on_message.Goals as goal

pub returns-then-not-matches-clause-others : goal.returns-then-not-matches-clause-others
returns-then-not-matches-clause-others g c = λ id b at not_own.
    let m = c.args.message.now in
    let stays = others_stay g.S.Store.calls c.args.self.now c.answer-answer.new.self _ c.later-now.result c.args.from m c.answer-answer.result
    (own_line g.S.Store.calls c.args.self.now c.args.from m.session m.body) c.answer-answer.ensures.does id b at not_own in
    ap (λ (x : ServerState _). bucket_at id x.buckets) c.self.view_is ∙ stays
