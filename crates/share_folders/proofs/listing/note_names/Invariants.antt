use Rattle.std.proofs.Common.{◌≡◌, map, take}
use Rattle.std.specs.String.{string_bytes}
use Rattle.disks.specs.Laws.{StaysHeld}
use Rattle.share_folders.specs.Listed.{AreTaken}
use Rattle.share_folders.proofs.listing.note_names.Given as goal

-- those before this one were taken note of
abbrev pub invariant-loop-name : goal.invariant-loop-name
invariant-loop-name g l = record {
  taken : AreTaken (map string_bytes (take l.name-index l.names)) l.closed.entries;
  place : g.D.Disk.place l.disk ≡ g.D.Disk.place l.fn.disk;
  so_far : g.D.Disk.honest l.disk → g.D.Disk.honest l.fn.disk;
  held : g.D.Disk.honest l.disk → StaysHeld g.D.Disk.relied (g.D.Disk.folder l.fn.disk) (g.D.Disk.folder l.disk);
}
