use Rattle.std.proofs.Common.{◌≡◌, map}
use Rattle.file_upload.proofs.shares.bytes_of.Given as goal

abbrev pub invariant-loop-share : goal.invariant-loop-share
invariant-loop-share l = map (λ bytes. bytes.items) l.all.items ≡ l.yielded
