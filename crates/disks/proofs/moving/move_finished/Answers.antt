use Rattle.disks.proofs.Moments.{weaker}
use Rattle.disks.proofs.Sparing.{fewer_of_any, keeps_on, Replacing}
use Rattle.disks.proofs.Moved.{any_moved, looked_passes, moved_keep, moved_passes, moved_stands, spares_moved, still_durable, then_moved}
use Rattle.disks.proofs.moving.move_finished.Goals as goal

pub returns-in-Err-clause-spared : goal.returns-in-Err-clause-spared
returns-in-Err-clause-spared g c honest bytes is relies = any_moved c.args.from.now c.args.to.now bytes _ _ c.requires.apart (c.look_at.ensures.kept honest c.args.from.now)

pub returns-in-Err-clause-any_moment : goal.returns-in-Err-clause-any_moment
returns-in-Err-clause-any_moment g c honest bytes is relies = looked_passes c.args.from.now c.args.to.now bytes _ _ _ c.requires.apart (c.look_at.ensures.any_moment honest c.args.from.now)

pub returns-in-Err-rename-clause-spared : goal.returns-in-Err-rename-clause-spared
returns-in-Err-rename-clause-spared g c honest bytes is relies =
    let from = c.args.from.now in
    let to = c.args.to.now in
    let looked = c.look_at.ensures.kept (c.rename.ensures.so_far honest) from in
    spares_moved from to bytes _ _ c.requires.apart (moved_keep from to bytes _ _ _ c.rename.result (c.requires.lasting, relies) is looked (c.rename.ensures.gives honest))

pub returns-in-Err-rename-clause-any_moment : goal.returns-in-Err-rename-clause-any_moment
returns-in-Err-rename-clause-any_moment g c honest bytes is relies =
    let from = c.args.from.now in
    let to = c.args.to.now in
    let before = c.rename.ensures.so_far honest in
    moved_passes from to bytes _ _ _ _ _ c.requires.apart (c.requires.lasting, relies) is (c.look_at.ensures.kept before from) (c.look_at.ensures.any_moment before from) (c.rename.ensures.passes honest)

pub returns-in-Ok-sync_names-clause-durable : goal.returns-in-Ok-sync_names-clause-durable
returns-in-Ok-sync_names-clause-durable g c honest bytes is relies relies_too =
    let from = c.args.from.now in
    let to = c.args.to.now in
    let renamed = c.sync_names.ensures.so_far honest in
    let looked = c.look_at.ensures.kept (c.rename.ensures.so_far renamed) from in
    c.in-Ok-sync_names.ensures.durable honest to bytes (c.requires.lasting_too, relies_too)
    (moved_stands from to _ _ bytes (c.requires.lasting, relies) (c.requires.lasting_too, relies_too) (still_durable from _ _ from bytes (c.requires.lasting, relies) looked is) (c.in-Ok-rename.ensures.gives renamed))

pub returns-in-Ok-sync_names-clause-spared : goal.returns-in-Ok-sync_names-clause-spared
returns-in-Ok-sync_names-clause-spared g c honest bytes is relies =
    let from = c.args.from.now in
    let to = c.args.to.now in
    let renamed = c.sync_names.ensures.so_far honest in
    let looked = c.look_at.ensures.kept (c.rename.ensures.so_far renamed) from in
    spares_moved from to bytes _ _ c.requires.apart
    (keeps_on from (Replacing from to bytes) _ _ _ (moved_keep from to bytes _ _ _ c.rename.result (c.requires.lasting, relies) is looked (c.rename.ensures.gives renamed))
    (fewer_of_any from to bytes _ _ (c.sync_names.ensures.kept honest from)))

pub returns-in-Ok-sync_names-clause-any_moment : goal.returns-in-Ok-sync_names-clause-any_moment
returns-in-Ok-sync_names-clause-any_moment g c honest bytes is relies =
    let from = c.args.from.now in
    let to = c.args.to.now in
    let renamed = c.sync_names.ensures.so_far honest in
    let before = c.rename.ensures.so_far renamed in
    let looked = c.look_at.ensures.kept before from in
    then_moved from to bytes _ _ _ _ _ c.requires.apart (moved_keep from to bytes _ _ _ c.rename.result (c.requires.lasting, relies) is looked (c.rename.ensures.gives renamed))
    (moved_passes from to bytes _ _ _ _ _ c.requires.apart (c.requires.lasting, relies) is looked (c.look_at.ensures.any_moment before from) (c.rename.ensures.passes renamed))
    (weaker _ _ _ _ (λ u keeps. fewer_of_any from to bytes _ u keeps) (c.sync_names.ensures.any_moment honest from))

pub returns-clause-spared : goal.returns-clause-spared
returns-clause-spared g c honest bytes is relies =
    let from = c.args.from.now in
    let to = c.args.to.now in
    let renamed = c.sync_names.ensures.so_far honest in
    let looked = c.look_at.ensures.kept (c.rename.ensures.so_far renamed) from in
    spares_moved from to bytes _ _ c.requires.apart
    (keeps_on from (Replacing from to bytes) _ _ _ (moved_keep from to bytes _ _ _ c.rename.result (c.requires.lasting, relies) is looked (c.rename.ensures.gives renamed))
    (fewer_of_any from to bytes _ _ (c.sync_names.ensures.kept honest from)))

pub returns-clause-any_moment : goal.returns-clause-any_moment
returns-clause-any_moment g c honest bytes is relies =
    let from = c.args.from.now in
    let to = c.args.to.now in
    let renamed = c.sync_names.ensures.so_far honest in
    let before = c.rename.ensures.so_far renamed in
    let looked = c.look_at.ensures.kept before from in
    then_moved from to bytes _ _ _ _ _ c.requires.apart (moved_keep from to bytes _ _ _ c.rename.result (c.requires.lasting, relies) is looked (c.rename.ensures.gives renamed))
    (moved_passes from to bytes _ _ _ _ _ c.requires.apart (c.requires.lasting, relies) is looked (c.look_at.ensures.any_moment before from) (c.rename.ensures.passes renamed))
    (weaker _ _ _ _ (λ u keeps. fewer_of_any from to bytes _ u keeps) (c.sync_names.ensures.any_moment honest from))
