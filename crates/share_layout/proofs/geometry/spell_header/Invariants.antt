use Rattle.std.proofs.Common.{◌≡◌, ◌+◌, ◌*◌, ◌++◌, length, take, drop}
use Rattle.std.specs.Int.{w32, to_be_bytes}
use Rattle.std.specs.List.{flat_map}
use Rattle.share_layout.specs.Layout.{spelled, version, width}
use Rattle.share_layout.proofs.geometry.spell_header.Given as goal

abbrev pub invariant-loop-i : goal.invariant-loop-i
invariant-loop-i l =
    (length l.out ≡ 68) × (length l.numbers ≡ 8)
    × (take (4 + width l.layout * l.i) l.out
    ≡ to_be_bytes w32 (version l.layout) ++ flat_map (spelled l.layout) (take l.i l.numbers))
    × (drop (4 + width l.layout * l.i) l.out ≡ drop (4 + width l.layout * l.i) l.fn.out)
