use Rattle.std.proofs.Common.{◌≡◌, ◌++◌, take}
use Rattle.std.specs.List.{flat_map}
use Rattle.wire.specs.Frames.{held_share}
use Rattle.wire.proofs.encoding.put_held.Given as goal

-- the shares before this one are written
abbrev pub invariant-loop-h : goal.invariant-loop-h
invariant-loop-h l = l.out.items ≡ l.fn.out.items ++ flat_map held_share (take l.h-index l.held)
