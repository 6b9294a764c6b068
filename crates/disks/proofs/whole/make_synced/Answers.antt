use Rattle.disks.specs.Whole.{Any, Beside}
use Rattle.disks.proofs.Sparing.{any_spares, created_keep, creates_own, keeps_on, made_free, make_passes, opened_keep, spares_all, then_spares}
use Rattle.disks.proofs.whole.make_synced.Goals as goal

pub returns-in-Err-clause-kept : goal.returns-in-Err-clause-kept
returns-in-Err-clause-kept g c honest = opened_keep c.args.own.now (Beside c.args.own.now) _ _ (c.in-Err.ensures.gives honest)

pub returns-in-Err-clause-spared : goal.returns-in-Err-clause-spared
returns-in-Err-clause-spared g c honest = any_spares c.args.own.now _ _ (opened_keep c.args.own.now Any _ _ (c.in-Err.ensures.gives honest))

pub returns-in-Err-clause-any_moment : goal.returns-in-Err-clause-any_moment
returns-in-Err-clause-any_moment g c honest = make_passes c.args.own.now _ _ _ (c.create.ensures.passes honest)

pub returns-in-Ok-write_synced-clause-free : goal.returns-in-Ok-write_synced-clause-free
returns-in-Ok-write_synced-clause-free g c honest =
    made_free _ _ c.args.own.now _ (c.in-Ok.ensures.gives (c.write_synced.ensures.so_far honest))

pub returns-in-Ok-write_synced-clause-kept : goal.returns-in-Ok-write_synced-clause-kept
returns-in-Ok-write_synced-clause-kept g c honest =
    let own = c.args.own.now in
    let made = c.in-Ok.ensures.gives (c.write_synced.ensures.so_far honest) in
    keeps_on own (Beside own) _ _ _ (created_keep own _ _ _ made) (c.write_synced.ensures.kept honest own (creates_own own _ _ _ made))

pub returns-in-Ok-write_synced-clause-spared : goal.returns-in-Ok-write_synced-clause-spared
returns-in-Ok-write_synced-clause-spared g c honest =
    let own = c.args.own.now in
    let made = c.in-Ok.ensures.gives (c.write_synced.ensures.so_far honest) in
    spares_all own _ _ (made_free _ _ own _ made)
    (keeps_on own (Beside own) _ _ _ (created_keep own _ _ _ made) (c.write_synced.ensures.kept honest own (creates_own own _ _ _ made)))

pub returns-in-Ok-write_synced-clause-any_moment : goal.returns-in-Ok-write_synced-clause-any_moment
returns-in-Ok-write_synced-clause-any_moment g c honest =
    let own = c.args.own.now in
    let before = c.write_synced.ensures.so_far honest in
    let made = c.in-Ok.ensures.gives before in
    then_spares own _ _ _ _ _ (made_free _ _ own _ made) (created_keep own _ _ _ made) (make_passes own _ _ _ (c.create.ensures.passes before))
    (c.write_synced.ensures.any_moment honest own (creates_own own _ _ _ made))

pub returns-in-Err-write_synced-clause-kept : goal.returns-in-Err-write_synced-clause-kept
returns-in-Err-write_synced-clause-kept g c honest =
    let own = c.args.own.now in
    let written = c.dropped.ensures.so_far honest in
    let made = c.in-Ok.ensures.gives (c.write_synced.ensures.so_far written) in
    keeps_on own (Beside own) _ _ _ (created_keep own _ _ _ made)
    (keeps_on own (Beside own) _ _ _ (c.write_synced.ensures.kept written own (creates_own own _ _ _ made)) (c.dropped.ensures.kept honest))

pub returns-in-Err-write_synced-clause-spared : goal.returns-in-Err-write_synced-clause-spared
returns-in-Err-write_synced-clause-spared g c honest =
    let own = c.args.own.now in
    let written = c.dropped.ensures.so_far honest in
    let made = c.in-Ok.ensures.gives (c.write_synced.ensures.so_far written) in
    spares_all own _ _ (made_free _ _ own _ made)
    (keeps_on own (Beside own) _ _ _ (created_keep own _ _ _ made)
    (keeps_on own (Beside own) _ _ _ (c.write_synced.ensures.kept written own (creates_own own _ _ _ made)) (c.dropped.ensures.kept honest)))

pub returns-in-Err-write_synced-clause-any_moment : goal.returns-in-Err-write_synced-clause-any_moment
returns-in-Err-write_synced-clause-any_moment g c honest =
    let own = c.args.own.now in
    let written = c.dropped.ensures.so_far honest in
    let before = c.write_synced.ensures.so_far written in
    let made = c.in-Ok.ensures.gives before in
    let free = made_free _ _ own _ made in
    let is = creates_own own _ _ _ made in
    let first = created_keep own _ _ _ made in
    then_spares own _ _ _ _ _ free (keeps_on own (Beside own) _ _ _ first (c.write_synced.ensures.kept written own is))
    (then_spares own _ _ _ _ _ free first (make_passes own _ _ _ (c.create.ensures.passes before)) (c.write_synced.ensures.any_moment written own is))
    (c.dropped.ensures.any_moment honest)
