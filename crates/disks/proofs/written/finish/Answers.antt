use Rattle.disks.proofs.Sparing.{all_spares, made_passes}
use Rattle.disks.proofs.Writing.{begun_spared, change_begun, change_moments, synced_so, then_named}
use Rattle.disks.proofs.written.finish.Goals as goal

pub returns-in-Ok-clause-durable : goal.returns-in-Ok-clause-durable
returns-in-Ok-clause-durable g c honest begun bytes writing =
    c.name_synced.ensures.durable honest begun bytes (synced_so begun c.args.own.now _ bytes _ _ writing (c.in-Ok.ensures.gives (c.name_synced.ensures.so_far honest)))

pub returns-in-Ok-clause-named : goal.returns-in-Ok-clause-named
returns-in-Ok-clause-named g c honest begun bytes writing =
    c.name_synced.ensures.named honest begun bytes (synced_so begun c.args.own.now _ bytes _ _ writing (c.in-Ok.ensures.gives (c.name_synced.ensures.so_far honest)))

pub returns-in-Ok-clause-spared : goal.returns-in-Ok-clause-spared
returns-in-Ok-clause-spared g c honest begun bytes writing =
    c.name_synced.ensures.spared honest begun bytes (synced_so begun c.args.own.now _ bytes _ _ writing (c.in-Ok.ensures.gives (c.name_synced.ensures.so_far honest)))

pub returns-in-Ok-clause-any_moment : goal.returns-in-Ok-clause-any_moment
returns-in-Ok-clause-any_moment g c honest begun bytes writing =
    let before = c.name_synced.ensures.so_far honest in
    then_named begun c.args.last.now bytes _ _ _ (change_moments begun c.args.own.now _ bytes _ _ _ _ _ writing (c.sync_file.ensures.passes before))
    (c.name_synced.ensures.any_moment honest begun bytes (synced_so begun c.args.own.now _ bytes _ _ writing (c.in-Ok.ensures.gives before)))

pub returns-in-Ok-clause-gone : goal.returns-in-Ok-clause-gone
returns-in-Ok-clause-gone g c honest begun bytes writing =
    c.name_synced.ensures.gone honest begun bytes (synced_so begun c.args.own.now _ bytes _ _ writing (c.in-Ok.ensures.gives (c.name_synced.ensures.so_far honest)))

pub returns-in-Err-clause-spared : goal.returns-in-Err-clause-spared
returns-in-Err-clause-spared g c honest begun bytes writing =
    all_spares c.args.last.now bytes begun _
    (begun_spared begun c.args.own.now _ (change_begun begun c.args.own.now _ bytes _ _ c.sync_file.result _ _ writing (c.sync_file.ensures.gives honest)))

pub returns-in-Err-clause-any_moment : goal.returns-in-Err-clause-any_moment
returns-in-Err-clause-any_moment g c honest begun bytes writing =
    made_passes c.args.last.now bytes begun _ _ (change_moments begun c.args.own.now _ bytes _ _ _ _ _ writing (c.sync_file.ensures.passes honest))
