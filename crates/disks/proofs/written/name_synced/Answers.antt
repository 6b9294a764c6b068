use Rattle.disks.proofs.OwnNames.{renames_stands}
use Rattle.disks.proofs.Writing.{filled_passes, filled_replaces, filled_spares, stands_has, synced_passes, synced_spares}
use Rattle.disks.proofs.written.name_synced.Goals as goal

pub returns-in-Err-clause-spared : goal.returns-in-Err-clause-spared
returns-in-Err-clause-spared g c honest begun bytes filled =
    filled_spares begun c.args.own.now c.args.last.now _ bytes c.rename.result _ _ filled (c.rename.ensures.gives honest)

pub returns-in-Err-clause-any_moment : goal.returns-in-Err-clause-any_moment
returns-in-Err-clause-any_moment g c honest begun bytes filled =
    filled_passes begun c.args.own.now c.args.last.now _ bytes _ _ _ filled (c.rename.ensures.passes honest)

pub returns-in-Ok-sync_names-clause-durable : goal.returns-in-Ok-sync_names-clause-durable
returns-in-Ok-sync_names-clause-durable g c honest begun bytes filled lasting =
    c.in-Ok-sync_names.ensures.durable honest c.args.last.now bytes lasting
    (renames_stands c.args.own.now c.args.last.now _ _ _ bytes lasting (c.in-Ok.ensures.gives (c.sync_names.ensures.so_far honest)) filled.file)

pub returns-in-Err-sync_names-clause-named : goal.returns-in-Err-sync_names-clause-named
returns-in-Err-sync_names-clause-named g c honest begun bytes filled lasting _ =
    (c.sync_names.ensures.stays honest).names c.args.last.now bytes lasting
    (stands_has (g.D.Disk.folder c.rename.new.self) bytes _ (renames_stands c.args.own.now c.args.last.now _ _ _ bytes lasting (c.in-Ok.ensures.gives (c.sync_names.ensures.so_far honest)) filled.file))

pub returns-in-Ok-sync_names-clause-spared : goal.returns-in-Ok-sync_names-clause-spared
returns-in-Ok-sync_names-clause-spared g c honest begun bytes filled =
    let own = c.args.own.now in
    let last = c.args.last.now in
    let renamed = filled_replaces begun own last _ bytes c.rename.result _ _ filled (c.rename.ensures.gives (c.sync_names.ensures.so_far honest)) in
    synced_spares begun own last bytes _ _ filled.since renamed _ (c.sync_names.ensures.kept honest own)

pub returns-in-Ok-sync_names-clause-any_moment : goal.returns-in-Ok-sync_names-clause-any_moment
returns-in-Ok-sync_names-clause-any_moment g c honest begun bytes filled =
    let own = c.args.own.now in
    let last = c.args.last.now in
    let before = c.sync_names.ensures.so_far honest in
    let renamed = filled_replaces begun own last _ bytes c.rename.result _ _ filled (c.rename.ensures.gives before) in
    synced_passes begun own last bytes _ _ _ _ _ filled.since renamed
    (filled_passes begun own last _ bytes _ _ _ filled (c.rename.ensures.passes before))
    (c.sync_names.ensures.any_moment honest own)

pub returns-in-Err-sync_names-clause-spared : goal.returns-in-Err-sync_names-clause-spared
returns-in-Err-sync_names-clause-spared g c honest begun bytes filled =
    let own = c.args.own.now in
    let last = c.args.last.now in
    let renamed = filled_replaces begun own last _ bytes c.rename.result _ _ filled (c.rename.ensures.gives (c.sync_names.ensures.so_far honest)) in
    synced_spares begun own last bytes _ _ filled.since renamed _ (c.sync_names.ensures.kept honest own)

pub returns-in-Err-sync_names-clause-any_moment : goal.returns-in-Err-sync_names-clause-any_moment
returns-in-Err-sync_names-clause-any_moment g c honest begun bytes filled =
    let own = c.args.own.now in
    let last = c.args.last.now in
    let before = c.sync_names.ensures.so_far honest in
    let renamed = filled_replaces begun own last _ bytes c.rename.result _ _ filled (c.rename.ensures.gives before) in
    synced_passes begun own last bytes _ _ _ _ _ filled.since renamed
    (filled_passes begun own last _ bytes _ _ _ filled (c.rename.ensures.passes before))
    (c.sync_names.ensures.any_moment honest own)
