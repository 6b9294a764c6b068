use Rattle.std.specs.Prelude.{Result, Ok, Err, OnOk}
use Rattle.disks.specs.Names.{Relied}
use Rattle.disks.specs.declared.error.DiskError.{DiskError}
use Rattle.disks.specs.Folder.{Folder}
use Rattle.disks.specs.Calls.{Does, Either, Stays}
use Rattle.disks.specs.Steps.{Renames}
use Rattle.disks.specs.Whole.{Any}
use Rattle.disks.specs.Others.{Steps}
use Rattle.disks.proofs.Kept.{goes_on, passes_on, passes_first, rename_keeps, stays_keep, steps_keep, sync_folder_keeps}
use Rattle.disks.proofs.OwnNames.{renames_stands, stays_own, syncs_durable}
use Rattle.disks.proofs.Sparing.{does_keep, opened_keep, rename_so, Replacing, sync_keep}
use Rattle.disks.proofs.closing.finish_synced.Goals as goal

where_ok : {relied : Relied} (ok err : Folder → Folder → Type 0) (r : Result Unit DiskError) (s t : Folder) (P : Type 0)
    → Does relied ok err r s t → (Steps relied ok s t → P) → OnOk r P
where_ok {relied} ok err (Ok u) s t P does then = then does
where_ok {relied} ok err (Err e) s t P does then = tt

pub returns-clause-durable : goal.returns-clause-durable
returns-clause-durable g c honest bytes own relies =
    let renamed = c.sync_folder.ensures.so_far honest in
    let opened = c.in_ok-folder.ensures.gives (c.in_ok-rename.ensures.so_far renamed) in
    let still = stays_own _ _ c.args.own.now _ _ opened own in
    let stands = renames_stands _ _ _ _ _ bytes (c.requires.lasting, relies) (c.in_ok-rename.ensures.gives renamed) still in
    where_ok _ _ c.sync_folder.result _ _ _ (c.sync_folder.ensures.gives honest)
    (λ step. syncs_durable _ _ _ bytes (c.requires.lasting, relies) step stands)

pub returns-in_err-folder-clause-kept : goal.returns-in_err-folder-clause-kept
returns-in_err-folder-clause-kept g c honest bytes own =
    let s = g.D.Disk.folder c.args.disk.now in
    steps_keep c.args.last.now bytes Stays s _ (stays_keep c.args.last.now bytes s) (c.in_err-folder.ensures.gives honest)

pub returns-in_err-folder-clause-any_moment : goal.returns-in_err-folder-clause-any_moment
returns-in_err-folder-clause-any_moment g c honest bytes own =
    let s = g.D.Disk.folder c.args.disk.now in
    passes_first c.args.last.now bytes Stays s _ _ (stays_keep c.args.last.now bytes s) (c.open_folder.ensures.passes honest)

pub returns-in_err-rename-clause-kept : goal.returns-in_err-rename-clause-kept
returns-in_err-rename-clause-kept g c honest bytes own =
    let last = c.args.last.now in
    let s = g.D.Disk.folder c.args.disk.now in
    let opened = c.in_ok-folder.ensures.gives (c.rename.ensures.so_far honest) in
    let first = steps_keep last bytes Stays s _ (stays_keep last bytes s) opened in
    let still = stays_own _ _ c.args.own.now _ _ opened own in
    goes_on last bytes _ _ c.rename.result s _ _ first (rename_keeps c.args.own.now last bytes _ _ still) (c.rename.ensures.gives honest)

pub returns-in_err-rename-clause-any_moment : goal.returns-in_err-rename-clause-any_moment
returns-in_err-rename-clause-any_moment g c honest bytes own =
    let last = c.args.last.now in
    let s = g.D.Disk.folder c.args.disk.now in
    let before = c.rename.ensures.so_far honest in
    let opened = c.in_ok-folder.ensures.gives before in
    let first = steps_keep last bytes Stays s _ (stays_keep last bytes s) opened in
    let still = stays_own _ _ c.args.own.now _ _ opened own in
    let passed = passes_first last bytes Stays s _ _ (stays_keep last bytes s) (c.open_folder.ensures.passes before) in
    passes_on last bytes _ s _ _ _ _ first (rename_keeps c.args.own.now last bytes _ _ still) passed (c.rename.ensures.passes honest)

pub returns-clause-kept : goal.returns-clause-kept
returns-clause-kept g c honest bytes own =
    let last = c.args.last.now in
    let s = g.D.Disk.folder c.args.disk.now in
    let renamed = c.sync_folder.ensures.so_far honest in
    let opened = c.in_ok-folder.ensures.gives (c.rename.ensures.so_far renamed) in
    let first = steps_keep last bytes Stays s _ (stays_keep last bytes s) opened in
    let still = stays_own _ _ c.args.own.now _ _ opened own in
    let second = goes_on last bytes _ _ c.rename.result s _ _ first (rename_keeps c.args.own.now last bytes _ _ still) (c.rename.ensures.gives renamed) in
    goes_on last bytes _ _ c.sync_folder.result s _ _ second (sync_folder_keeps last bytes _) (c.sync_folder.ensures.gives honest)

pub returns-clause-any_moment : goal.returns-clause-any_moment
returns-clause-any_moment g c honest bytes own =
    let last = c.args.last.now in
    let s = g.D.Disk.folder c.args.disk.now in
    let renamed = c.sync_folder.ensures.so_far honest in
    let before = c.rename.ensures.so_far renamed in
    let opened = c.in_ok-folder.ensures.gives before in
    let first = steps_keep last bytes Stays s _ (stays_keep last bytes s) opened in
    let still = stays_own _ _ c.args.own.now _ _ opened own in
    let second = goes_on last bytes _ _ c.rename.result s _ _ first (rename_keeps c.args.own.now last bytes _ _ still) (c.rename.ensures.gives renamed) in
    let passed = passes_first last bytes Stays s _ _ (stays_keep last bytes s) (c.open_folder.ensures.passes before) in
    let passed_rename = passes_on last bytes _ s _ _ _ _ first (rename_keeps c.args.own.now last bytes _ _ still) passed (c.rename.ensures.passes renamed) in
    passes_on last bytes _ s _ _ _ _ second (sync_folder_keeps last bytes _) passed_rename (c.sync_folder.ensures.passes honest)

pub returns-clause-files : goal.returns-clause-files
returns-clause-files g c honest bytes is i kept has =
    let own = c.args.own.now in
    let last = c.args.last.now in
    let renamed = c.sync_folder.ensures.so_far honest in
    let opened = c.in_ok-folder.ensures.gives (c.rename.ensures.so_far renamed) in
    let still = stays_own _ _ own _ _ opened is in
    (sync_keep own Any c.sync_folder.result _ _ (c.sync_folder.ensures.gives honest)).files i kept
    ((does_keep own (Replacing own last bytes) (Renames own last) (Either Stays (Renames own last)) c.rename.result _ _ (rename_so own last bytes _ _ still) (c.rename.ensures.gives renamed)).files i kept
    ((opened_keep own Any _ _ opened).files i kept has))
