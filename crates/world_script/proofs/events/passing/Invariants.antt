use Rattle.std.proofs.Common.{◌≡◌, ◌-◌, map, reverse}
use Rattle.std.specs.List.{range_with_len}
use Rattle.world.specs.declared.event.Event.TheVariants.{Tick}
use Rattle.world_script.proofs.events.passing.Given as goal

abbrev pub invariant-loop-later : goal.invariant-loop-later
invariant-loop-later l = reverse l.events.items ≡ map Tick (range_with_len (l.honest - l.later) l.later)
