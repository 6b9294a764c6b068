use Rattle.std.proofs.Common.{map}
use Rattle.std.specs.String.{string_bytes}
use Rattle.share_folders.specs.Listed.{AreListed}
use Rattle.share_folders.proofs.Closings.{as_if}
use Rattle.share_folders.proofs.Listings.{Texts, all_listed, listed_held, listed_stand}
use Rattle.share_folders.proofs.listing.list_names.Goals as goal

pub returns-clause-listed : goal.returns-clause-listed
returns-clause-listed g c honest =
    let s = g.D.Disk.folder c.args.disk.now in
    as_if c.list.result c.as_stored.result (λ (names : Texts). AreListed g.D.Disk.relied (map string_bytes names.items) s) c.as_stored.ensures
    (all_listed g.D.Disk.relied c.list.result s _ (c.list.ensures.gives honest))

pub returns-clause-held : goal.returns-clause-held
returns-clause-held g c honest = listed_held g.D.Disk.relied c.list.result _ _ (c.list.ensures.gives honest)

pub returns-clause-standing : goal.returns-clause-standing
returns-clause-standing g c honest = listed_stand g.D.Disk.relied c.list.result _ _ (c.list.ensures.gives honest)
