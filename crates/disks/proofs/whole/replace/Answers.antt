use Rattle.disks.proofs.Sparing.{all_spares, fewer, fewer_of_any, keeps_on, made_passes, renamed_keep, renamed_passes, Replacing, spares, then_replaces}
use Rattle.disks.proofs.Moments.{weaker}
use Rattle.disks.proofs.OwnNames.{renames_stands}
use Rattle.disks.proofs.whole.replace.Goals as goal

pub returns-in-Err-clause-spared : goal.returns-in-Err-clause-spared
returns-in-Err-clause-spared g c honest = all_spares c.args.last.now c.args.bytes.now _ _ (c.make_synced.ensures.spared honest)

pub returns-in-Err-clause-any_moment : goal.returns-in-Err-clause-any_moment
returns-in-Err-clause-any_moment g c honest = made_passes c.args.last.now c.args.bytes.now _ _ _ (c.make_synced.ensures.any_moment honest)

pub returns-in-Err-rename-clause-spared : goal.returns-in-Err-rename-clause-spared
returns-in-Err-rename-clause-spared g c honest =
    let own = c.args.own.now in
    let last = c.args.last.now in
    let bytes = c.args.bytes.now in
    let renamed = c.dropped.ensures.so_far honest in
    let made = c.rename.ensures.so_far renamed in
    spares own last bytes _ _ (c.in-Ok.ensures.free made)
    (keeps_on own (Replacing own last bytes) _ _ _
    (renamed_keep own last bytes _ _ _ _ c.rename.result (c.make_synced.ensures.kept made) (c.in-Ok.ensures.made made) (c.rename.ensures.gives renamed))
    (fewer own last bytes _ _ (c.dropped.ensures.kept honest)))

pub returns-in-Err-rename-clause-any_moment : goal.returns-in-Err-rename-clause-any_moment
returns-in-Err-rename-clause-any_moment g c honest =
    let own = c.args.own.now in
    let last = c.args.last.now in
    let bytes = c.args.bytes.now in
    let renamed = c.dropped.ensures.so_far honest in
    let made = c.rename.ensures.so_far renamed in
    let free = c.in-Ok.ensures.free made in
    let is = c.in-Ok.ensures.made made in
    let kept = c.make_synced.ensures.kept made in
    then_replaces own last bytes _ _ _ _ _ free
    (renamed_keep own last bytes _ _ _ _ c.rename.result kept is (c.rename.ensures.gives renamed))
    (renamed_passes own last bytes _ _ _ _ _ _ free kept is (c.make_synced.ensures.any_moment made) (c.rename.ensures.passes renamed))
    (weaker _ _ _ _ (λ u keeps. fewer own last bytes _ u keeps) (c.dropped.ensures.any_moment honest))

pub returns-in-Ok-sync_names-clause-durable : goal.returns-in-Ok-sync_names-clause-durable
returns-in-Ok-sync_names-clause-durable g c honest lasting =
    let renamed = c.sync_names.ensures.so_far honest in
    let made = c.rename.ensures.so_far renamed in
    c.in-Ok-sync_names.ensures.durable honest c.args.last.now c.args.bytes.now lasting
    (renames_stands _ _ _ _ _ c.args.bytes.now lasting (c.in-Ok-rename.ensures.gives renamed) (c.in-Ok.ensures.made made))

pub returns-in-Ok-sync_names-clause-spared : goal.returns-in-Ok-sync_names-clause-spared
returns-in-Ok-sync_names-clause-spared g c honest =
    let own = c.args.own.now in
    let last = c.args.last.now in
    let bytes = c.args.bytes.now in
    let renamed = c.sync_names.ensures.so_far honest in
    let made = c.rename.ensures.so_far renamed in
    spares own last bytes _ _ (c.in-Ok.ensures.free made)
    (keeps_on own (Replacing own last bytes) _ _ _
    (renamed_keep own last bytes _ _ _ _ c.rename.result (c.make_synced.ensures.kept made) (c.in-Ok.ensures.made made) (c.rename.ensures.gives renamed))
    (fewer_of_any own last bytes _ _ (c.sync_names.ensures.kept honest own)))

pub returns-in-Ok-sync_names-clause-any_moment : goal.returns-in-Ok-sync_names-clause-any_moment
returns-in-Ok-sync_names-clause-any_moment g c honest =
    let own = c.args.own.now in
    let last = c.args.last.now in
    let bytes = c.args.bytes.now in
    let renamed = c.sync_names.ensures.so_far honest in
    let made = c.rename.ensures.so_far renamed in
    let free = c.in-Ok.ensures.free made in
    let is = c.in-Ok.ensures.made made in
    let kept = c.make_synced.ensures.kept made in
    then_replaces own last bytes _ _ _ _ _ free
    (renamed_keep own last bytes _ _ _ _ c.rename.result kept is (c.rename.ensures.gives renamed))
    (renamed_passes own last bytes _ _ _ _ _ _ free kept is (c.make_synced.ensures.any_moment made) (c.rename.ensures.passes renamed))
    (weaker _ _ _ _ (λ u keeps. fewer_of_any own last bytes _ u keeps) (c.sync_names.ensures.any_moment honest own))

pub returns-clause-spared : goal.returns-clause-spared
returns-clause-spared g c honest =
    let own = c.args.own.now in
    let last = c.args.last.now in
    let bytes = c.args.bytes.now in
    let renamed = c.sync_names.ensures.so_far honest in
    let made = c.rename.ensures.so_far renamed in
    spares own last bytes _ _ (c.in-Ok.ensures.free made)
    (keeps_on own (Replacing own last bytes) _ _ _
    (renamed_keep own last bytes _ _ _ _ c.rename.result (c.make_synced.ensures.kept made) (c.in-Ok.ensures.made made) (c.rename.ensures.gives renamed))
    (fewer_of_any own last bytes _ _ (c.sync_names.ensures.kept honest own)))

pub returns-clause-any_moment : goal.returns-clause-any_moment
returns-clause-any_moment g c honest =
    let own = c.args.own.now in
    let last = c.args.last.now in
    let bytes = c.args.bytes.now in
    let renamed = c.sync_names.ensures.so_far honest in
    let made = c.rename.ensures.so_far renamed in
    let free = c.in-Ok.ensures.free made in
    let is = c.in-Ok.ensures.made made in
    let kept = c.make_synced.ensures.kept made in
    then_replaces own last bytes _ _ _ _ _ free
    (renamed_keep own last bytes _ _ _ _ c.rename.result kept is (c.rename.ensures.gives renamed))
    (renamed_passes own last bytes _ _ _ _ _ _ free kept is (c.make_synced.ensures.any_moment made) (c.rename.ensures.passes renamed))
    (weaker _ _ _ _ (λ u keeps. fewer_of_any own last bytes _ u keeps) (c.sync_names.ensures.any_moment honest own))
