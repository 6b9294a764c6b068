use Rattle.std.proofs.Common.{◌≡◌, ◌++◌, map, take}
use Rattle.placement.specs.Plan.{IsSpread, load_of}
use Rattle.placement.proofs.plan.spread.Given as goal

abbrev pub invariant-loop-share : goal.invariant-loop-share
invariant-loop-share l = record {
  loads : l.loads.items ≡ map (load_of (l.m2 ++ l.m3 ++ l.leftovers.items)) l.servers;
  spread : IsSpread l.servers (l.m2 ++ l.m3) (take l.share-index l.spare) l.leftovers.items;
}
