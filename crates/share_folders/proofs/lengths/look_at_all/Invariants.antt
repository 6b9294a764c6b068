use Rattle.std.proofs.Common.{◌≡◌}
use Rattle.disks.specs.Laws.{OwnStay, StaysHeld}
use Rattle.share_folders.specs.Stored.{StayKept}
use Rattle.share_folders.specs.Table.{AreSeen, StayBeside, has_index}
use Rattle.share_folders.proofs.lengths.look_at_all.Given as goal

-- those before this one were looked at, and no others
abbrev pub invariant-loop-held : goal.invariant-loop-held
invariant-loop-held g l = record {
  seen : AreSeen l.fn.closed.entries l.closed.entries;
  others : StayBeside (has_index l.index) l.fn.closed.entries l.closed.entries;
  place : g.D.Disk.place l.disk ≡ g.D.Disk.place l.fn.disk;
  so_far : g.D.Disk.honest l.disk → g.D.Disk.honest l.fn.disk;
  kept : g.D.Disk.honest l.disk → StayKept g.D.Disk.relied (g.D.Disk.folder l.fn.disk) l.fn.closed.entries (g.D.Disk.folder l.disk) l.closed.entries;
  held : g.D.Disk.honest l.disk → StaysHeld g.D.Disk.relied (g.D.Disk.folder l.fn.disk) (g.D.Disk.folder l.disk);
  opened : g.D.Disk.honest l.disk → OwnStay (g.D.Disk.folder l.fn.disk) (g.D.Disk.folder l.disk);
}
