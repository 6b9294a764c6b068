use Rattle.std.proofs.Common.{◌∙◌}
use Rattle.std.specs.Prelude.{is_some}
use Rattle.grid_shares.proofs.Placed.{put_of}
use Rattle.grid_shares.proofs.putting.place.Goals as goal

pub returns-clause-put : goal.returns-clause-put
returns-clause-put g c =
    put_of _ _ c.args.putting.now.words.now.grid.now c.as_slice.result.now c.args.ready _ (is_some c.args.kept.now) c.args.putting.now.words.now.mend _ c.in_ok-stored.stored c.args.cap.now
    (c.as_slice.ensures.value ∙ c.in_ok-servers.ensures.numbers) c.in_ok-stored.ensures.placed c.stored_file.result c.stored_file.ensures
