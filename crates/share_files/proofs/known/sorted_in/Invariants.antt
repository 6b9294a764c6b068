use Rattle.std.proofs.Common.{take}
use Rattle.share_files.specs.Known.{StandUnder}
use Rattle.share_files.proofs.known.sorted_in.Given as goal

-- the files so far
abbrev pub invariant-loop-file : goal.invariant-loop-file
invariant-loop-file l = StandUnder l.map (take l.file-index l.fn.files)
