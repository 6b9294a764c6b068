use Rattle.std.proofs.Common.{refl}
use Rattle.share_folders.proofs.Closings.{failed_closes, synced_closes}
use Rattle.share_folders.proofs.files.close_synced.Goals as goal

pub returns-in_err-sync_share-clause-closes : goal.returns-in_err-sync_share-clause-closes
returns-in_err-sync_share-clause-closes g c honest bytes was =
    failed_closes _ _ bytes c.from_residual.result _ _ c.from_residual.ensures.0 (c.sync_share.ensures.held honest _ _ was.1.1 refl)

pub returns-clause-closes : goal.returns-clause-closes
returns-clause-closes g c honest bytes was =
    let before = c.finish_synced.ensures.so_far honest in
    let own = c.in_ok-sync_share.ensures.synced before _ _ was.1.1 in
    synced_closes _ bytes c.finish_synced.result c.as_stored.result _ _ _ c.as_stored.ensures (c.sync_share.ensures.held before _ _ was.1.1 refl)
    (c.finish_synced.ensures.durable honest bytes own) (c.finish_synced.ensures.kept honest bytes own) (c.finish_synced.ensures.files honest bytes own)

pub returns-in_err-sync_share-clause-others : goal.returns-in_err-sync_share-clause-others
returns-in_err-sync_share-clause-others g c honest bytes was = c.sync_share.ensures.others honest

pub returns-clause-others : goal.returns-clause-others
returns-clause-others g c honest bytes was name i file passing apart own =
    let before = c.finish_synced.ensures.so_far honest in
    c.finish_synced.ensures.others honest bytes (c.in_ok-sync_share.ensures.synced before _ _ was.1.1) name i file passing apart
    (c.sync_share.ensures.others before name i file passing apart own)
