use Rattle.std.proofs.Common.{◌<◌, ℕ, [], map, slice_index, slice_index_or}
use Rattle.share_layout.specs.Offsets.{LocatesUeb}
use Rattle.file_encoding.proofs.decoded.agree.Given as goal

abbrev pub invariant-loop-position : goal.invariant-loop-position
invariant-loop-position l =
    (m : ℕ) → m < l.position-index → LocatesUeb (slice_index_or (map (λ s. s.1.now) l.shares) (slice_index l.positions m) []) l.extension_block
