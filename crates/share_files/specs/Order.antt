-- The order of share files: by the keys of their shares, and those of one key by their kinds.
use Rattle.std.specs.declared.cmp.Ordering.{Ordering}
use Rattle.share_files.specs.declared.name.ShareFile.{ShareFile}
use Rattle.share_files.specs.contracts.name.ShareFileOrd.TheImpl as file_ord

abbrev pub file_order : ShareFile → ShareFile → Ordering
file_order = (file_ord.ghosts).cmp
