use Rattle.std.proofs.Common.{Ok, ap, ◌∙◌}
use Rattle.std.specs.Prelude.{is_some}
use Rattle.std.proofs.lemmas.Result.{IfOk-weaker}
use Rattle.file_upload.specs.Streamed.{Streaming}
use Rattle.grid_shares.specs.Puts.{streamed_calls}
use Rattle.grid_shares.proofs.Placed.{streamed_put}
use Rattle.grid_shares.proofs.Told.{still_ok}
use Rattle.grid_shares.proofs.putting.put_source.Goals as goal

pub returns-clause-put : goal.returns-clause-put
returns-clause-put g c =
    IfOk-weaker c.place.result _ _
    (λ outcome put. (
      c.in_ok-ready.ready.pieces,
      still_ok c.prepare_stream-ready.result (Ok c.in_ok-ready.ready) _ _ c.in_ok-ready.ensures.cases c.in_ok-ready.ensures.variant c.prepare_stream-ready.ensures.prepared,
      streamed_put _ c.args.putting.now.words.now.grid.now (is_some c.args.kept.now) c.args.putting.now.words.now.mend (streamed_calls g.S.Source.gives g.S.Source.failures) c.in_ok-ready.ready _ c.args.putting.now.params.now.happy
          (still_ok c.prepare_stream-ready.result (Ok c.in_ok-ready.ready) _ _ c.in_ok-ready.ensures.cases c.in_ok-ready.ensures.variant c.prepare_stream-ready.ensures.goal) (still_ok c.prepare_stream-ready.result (Ok c.in_ok-ready.ready) _ _ c.in_ok-ready.ensures.cases c.in_ok-ready.ensures.variant c.prepare_stream-ready.ensures.happy) (c.cap.ensures ∙ ap (λ (s : Streaming _). s.kept.cap) c.pieces.ensures) outcome put,
    ))
    c.place.ensures.put
