use Rattle.std.proofs.Common.{IfSome, map, take}
use Rattle.sources.specs.Opened.{GivesOpened}
use Rattle.grid_servers.specs.Grids.{grid_calls}
use Rattle.grid_shares.specs.Puts.{said_by}
use Rattle.grid_shares.specs.Standing.{WereOpened}
use Rattle.grid_lists.specs.Puts.{AreListed}
use Rattle.grid_lists.proofs.putting.put_names.Given as goal

-- what became of the files so far, and the servers that are open
abbrev pub invariant-loop-name : goal.invariant-loop-name
invariant-loop-name g l = record {
  listed : AreListed (GivesOpened g.R.File.Seek.stream_position g.R.File.Seek.stream_bytes g.R.File.Read.remaining) (grid_calls g.R.Stream.Write.contents g.R.Stream.Read.remaining)
      l.fn.storing.words.now (said_by l.fn.storing.choices.now) l.fn.storing.since.now l.fn.storing.head.now (take l.name-index (map (λ n. n.now) l.fn.names)) l.fn.first l.status (g.O.Write.contents l.fn.out) (g.O.Write.contents l.out);
  kept : IfSome l.kept (λ s. WereOpened (grid_calls g.R.Stream.Write.contents g.R.Stream.Read.remaining) l.fn.storing.words.now.grid.now s.grid);
}
