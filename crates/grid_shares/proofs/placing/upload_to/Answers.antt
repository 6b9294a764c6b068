use Rattle.std.proofs.Common.{Ok, ap, ◌∙◌}
use Rattle.grid_servers.specs.Grids.{grid_calls}
use Rattle.grid_shares.specs.Standing.{Standing}
use Rattle.grid_shares.proofs.Placed.{begun_at, uploaded}
use Rattle.grid_shares.proofs.StandingLemmas.{opened_as, opened_still}
use Rattle.grid_shares.proofs.Told.{still_ok, whatever}
use Rattle.grid_shares.proofs.placing.upload_to.Goals as goal

pub returns-clause-uploaded : goal.returns-clause-uploaded
returns-clause-uploaded g c =
    begun_at _ (grid_calls g.R.Stream.Write.contents g.R.Stream.Read.remaining) _ c.args.standing.now.session c.args.servers.now c.args.ready c.reached_happiness.result c.args.standing.now.grid (ap (λ (s : Standing _). s.grid) c.standing.view_is ∙ c.next_session-session.ensures.grid)
    (uploaded _ (grid_calls g.R.Stream.Write.contents g.R.Stream.Read.remaining) _ c.args.standing.now.session c.args.servers.now c.args.ready c.pieces_ahead-ahead.result _ c.in_ok-upload.upload c.in_ok-upload-2.upload c.next_session-session.result c.clock-now.result c.reached_happiness.result _ _
    c.reached_happiness.ensures c.status.ensures.value c.status.ensures.right c.next_session-session.ensures.session c.clock-now.ensures c.in_ok-upload.ensures.begins c.in_ok-upload.ensures.pieces c.pieces_ahead-ahead.ensures.few
    (still_ok c.carry_upload.result (Ok c.in_ok-upload-2.upload) _ _ c.in_ok-upload-2.ensures.cases c.in_ok-upload-2.ensures.variant c.carry_upload.ensures))

pub returns-clause-opened : goal.returns-clause-opened
returns-clause-opened g c = λ grid were.
    let carried = still_ok c.carry_upload.result (Ok c.in_ok-upload-2.upload) _ _ c.in_ok-upload-2.ensures.cases c.in_ok-upload-2.ensures.variant c.carry_upload.ensures in
    whatever c.reached_happiness.result _ (opened_still (grid_calls g.R.Stream.Write.contents g.R.Stream.Read.remaining) _ grid _ carried.states _ carried.turns (opened_as (grid_calls g.R.Stream.Write.contents g.R.Stream.Read.remaining) grid _ c.args.standing.now.grid (ap (λ (s : Standing _). s.grid) c.standing.view_is ∙ c.next_session-session.ensures.grid) were))
