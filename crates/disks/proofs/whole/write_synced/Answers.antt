use Rattle.std.proofs.Common.{ℕ, List, refl, sym, subst}
use Rattle.std.specs.Prelude.{false}
use Rattle.disks.specs.Folder.{FileState, IsOwn}
use Rattle.disks.specs.Whole.{Beside}
use Rattle.disks.proofs.Sparing.{keeps_on, passes_on, change_keep, change_passes}
use Rattle.disks.proofs.OwnNames.{changes_own}
use Rattle.disks.proofs.whole.write_synced.Goals as goal

abbrev unsynced : List ℕ → FileState
unsynced bytes = record { bytes = bytes; is_synced = false; is_finished = false }

pub returns-in_err-append-clause-kept : goal.returns-in_err-append-clause-kept
returns-in_err-append-clause-kept g c honest name is = change_keep (Beside name) _ _ name _ _ _ c.append.result is refl (c.append.ensures.gives honest)

pub returns-in_err-append-clause-any_moment : goal.returns-in_err-append-clause-any_moment
returns-in_err-append-clause-any_moment g c honest name is = change_passes (Beside name) _ name _ _ _ _ _ is refl (c.append.ensures.passes honest)

pub returns-clause-kept : goal.returns-clause-kept
returns-clause-kept g c honest name is =
    let before = c.sync_file.ensures.so_far honest in
    let t = g.D.Disk.folder c.append.new.self in
    let still = subst (λ (i : ℕ). IsOwn t name i (unsynced c.args.bytes.now)) (sym c.append.ensures.same) (changes_own _ _ _ _ name _ (c.in_ok-append.ensures.gives before) is) in
    keeps_on name (Beside name) _ t _ (change_keep (Beside name) _ _ name _ _ _ c.append.result is refl (c.append.ensures.gives before))
    (change_keep (Beside name) _ _ name _ _ _ c.sync_file.result still refl (c.sync_file.ensures.gives honest))

pub returns-clause-any_moment : goal.returns-clause-any_moment
returns-clause-any_moment g c honest name is =
    let before = c.sync_file.ensures.so_far honest in
    let t = g.D.Disk.folder c.append.new.self in
    let still = subst (λ (i : ℕ). IsOwn t name i (unsynced c.args.bytes.now)) (sym c.append.ensures.same) (changes_own _ _ _ _ name _ (c.in_ok-append.ensures.gives before) is) in
    passes_on name (Beside name) _ t _ _ _ (change_keep (Beside name) _ _ name _ _ _ c.append.result is refl (c.append.ensures.gives before))
    (change_passes (Beside name) _ name _ _ _ _ _ is refl (c.append.ensures.passes before))
    (change_passes (Beside name) _ name _ _ _ _ _ still refl (c.sync_file.ensures.passes honest))
