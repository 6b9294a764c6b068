use Rattle.std.proofs.Common.{◌≡◌, drop, take}
use Rattle.std.specs.List.{All}
use Rattle.wire.specs.Held.{rises_from, IsHeldShare}
use Rattle.wire.proofs.message.HeldList.from_vec.Given as goal

-- All shares rise just where the rest does, above the last one seen.
abbrev pub invariant-loop-held : goal.invariant-loop-held
invariant-loop-held l = record {
  rise : rises_from 0 l.held-items ≡ rises_from l.low (drop l.held-index l.held-items);
  each : All IsHeldShare (take l.held-index l.held-items);
}
