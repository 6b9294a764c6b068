use Rattle.std.specs.Prelude.{Result, Ok, Err, OnOk, ℕ, List}
use Rattle.std.proofs.Common.{◌∙◌}
use Rattle.disks.specs.declared.error.DiskError.{DiskError}
use Rattle.disks.specs.Names.{Name, Relied, IsRelied}
use Rattle.disks.specs.Folder.{Folder, StandsFor, IsDurable}
use Rattle.disks.specs.Steps.{SyncsFolder, MaySyncFolder}
use Rattle.disks.specs.Calls.{Does}
use Rattle.disks.proofs.Held.{held_on, folder_held, sync_names_held}
use Rattle.disks.proofs.OwnNames.{stays_own, stays_stand, synced_own, syncs_durable}
use Rattle.disks.specs.Whole.{Any}
use Rattle.disks.proofs.Sparing.{owns_same, owns_synced, keeps_on, opened_keep, opened_passes, passes_on, sync_keep, sync_passes}
use Rattle.disks.proofs.opening.sync_names.Goals as goal

synced : (relied : Relied) (r : Result Unit DiskError) (s t : Folder) (name : Name) (bytes : List ℕ) → IsRelied relied name bytes → Does relied SyncsFolder MaySyncFolder r s t
    → StandsFor s bytes (s.found name) → OnOk r (IsDurable t name bytes)
synced relied (Ok u) s t name bytes lasting does stands = syncs_durable s t name bytes lasting does stands
synced relied (Err e) s t name bytes lasting does stands = tt

pub returns-clause-durable : goal.returns-clause-durable
returns-clause-durable g c honest name bytes lasting stands =
    let opened = c.in_ok-folder.ensures.gives (c.sync_folder.ensures.so_far honest) in
    synced _ c.sync_folder.result _ _ name bytes lasting (c.sync_folder.ensures.gives honest) (stays_stand _ _ name bytes lasting opened stands)

pub returns-in_err-folder-clause-stays : goal.returns-in_err-folder-clause-stays
returns-in_err-folder-clause-stays g c honest = folder_held c.open_folder.result _ _ (c.open_folder.ensures.gives honest)

pub returns-clause-stays : goal.returns-clause-stays
returns-clause-stays g c honest =
    held_on _ _ _ (folder_held c.open_folder.result _ _ (c.open_folder.ensures.gives (c.sync_folder.ensures.so_far honest)))
    (sync_names_held c.sync_folder.result _ _ (c.sync_folder.ensures.gives honest))

pub returns-in_err-folder-clause-owns : goal.returns-in_err-folder-clause-owns
returns-in_err-folder-clause-owns g c honest name = owns_same _ _ name (c.in_err-folder.ensures.gives honest)

pub returns-in_err-folder-clause-kept : goal.returns-in_err-folder-clause-kept
returns-in_err-folder-clause-kept g c honest own = opened_keep own Any _ _ (c.in_err-folder.ensures.gives honest)

pub returns-in_err-folder-clause-any_moment : goal.returns-in_err-folder-clause-any_moment
returns-in_err-folder-clause-any_moment g c honest own = opened_passes own Any _ _ _ (c.open_folder.ensures.passes honest)

pub returns-clause-owns : goal.returns-clause-owns
returns-clause-owns g c honest name =
    owns_synced _ c.sync_folder.result _ _ name (c.sync_folder.ensures.gives honest) ∙ owns_same _ _ name (c.in_ok-folder.ensures.gives (c.sync_folder.ensures.so_far honest))

pub returns-clause-kept : goal.returns-clause-kept
returns-clause-kept g c honest own =
    keeps_on own Any _ _ _ (opened_keep own Any _ _ (c.in_ok-folder.ensures.gives (c.sync_folder.ensures.so_far honest)))
    (sync_keep own Any c.sync_folder.result _ _ (c.sync_folder.ensures.gives honest))

pub returns-clause-any_moment : goal.returns-clause-any_moment
returns-clause-any_moment g c honest own =
    let before = c.sync_folder.ensures.so_far honest in
    passes_on own Any _ _ _ _ _ (opened_keep own Any _ _ (c.in_ok-folder.ensures.gives before))
    (opened_passes own Any _ _ _ (c.open_folder.ensures.passes before))
    (sync_passes own Any _ _ _ (c.sync_folder.ensures.passes honest))

pub returns-in_err-folder-clause-owned : goal.returns-in_err-folder-clause-owned
returns-in_err-folder-clause-owned g c honest name bytes is = (is.0, stays_own _ _ name _ _ (c.in_err-folder.ensures.gives honest) is.1)

pub returns-clause-owned : goal.returns-clause-owned
returns-clause-owned g c honest name bytes is = (
  is.0,
  synced_own _ name _ _ c.sync_folder.result _ _ (c.sync_folder.ensures.gives honest)
      (stays_own _ _ name _ _ (c.in_ok-folder.ensures.gives (c.sync_folder.ensures.so_far honest)) is.1),
)
