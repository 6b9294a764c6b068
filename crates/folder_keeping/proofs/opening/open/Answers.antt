use Rattle.std.proofs.Common.{List, map, sym, subst, ◌∙◌}
use Rattle.std.specs.String.{string_bytes}
use Rattle.disks.specs.Folder.{IsDurable}
use Rattle.share_store.specs.Shelf.{ShareKey}
use Rattle.share_folders.specs.declared.table.KeptShare.{KeptShare}
use Rattle.share_folders.specs.Listed.{AreTaken}
use Rattle.share_folders.specs.Names.{closed_name}
use Rattle.share_folders.proofs.Lasting.{closed_lasts}
use Rattle.folder_keeping.proofs.SafeShares.{has_bytes}
use Rattle.folder_keeping.proofs.opening.open.Goals as goal

pub returns-clause-found : goal.returns-clause-found
returns-clause-found g c =
    let e = c.in_ok-listing.ensures in
    let over = λ (honest : g.D.Disk.honest c.new-store.result.disk). subst (λ (d : g.row.D.Denot). g.D.Disk.honest d) c.new-store.ensures.disk honest in
    record {
      opened = c.new-store.ensures.opened;
      recent = c.new-store.ensures.recent;
      taken = subst (λ (cs : List (ShareKey × KeptShare)). AreTaken (map string_bytes c.in_ok-listing.listing.names.items) cs) (sym c.new-store.ensures.closed) e.taken;
      so_far = λ honest. c.list_folder.ensures.so_far (over honest);
      found = λ honest name bytes lasting durable. (
        e.listed (over honest) name bytes lasting (has_bytes (g.D.Disk.folder c.args.disk) bytes _ durable.now),
        subst (λ (d : g.row.D.Denot). IsDurable (g.D.Disk.folder d) name bytes) (sym c.new-store.ensures.disk)
            ((c.list_folder.ensures.held (over honest)).durable name bytes lasting durable),
      );
      settled = λ honest synced key digest bytes named relies stands.
          let there = e.listed (over honest) (closed_name key digest) bytes (closed_lasts key digest named.2.len, relies) (has_bytes (g.D.Disk.folder c.args.disk) bytes _ stands) in (
            there,
            subst (λ (d : g.row.D.Denot). IsDurable (g.D.Disk.folder d) (closed_name key digest) bytes) (sym c.new-store.ensures.disk)
                (e.settled (over honest) (sym c.new-store.ensures.durability ∙ synced) key digest bytes named there relies stands),
          );
    }
