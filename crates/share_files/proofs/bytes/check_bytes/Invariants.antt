use Rattle.std.proofs.Common.{◌<◌, length}
use Rattle.share_files.specs.Reading.{HasRead}
use Rattle.share_files.proofs.bytes.check_bytes.Given as goal

abbrev pub invariant-loop : goal.invariant-loop
invariant-loop g l = HasRead (g.R.Read.remaining l.fn.reader) (g.R.Read.remaining l.reader) l.hasher × (0 < length l.buffer)
