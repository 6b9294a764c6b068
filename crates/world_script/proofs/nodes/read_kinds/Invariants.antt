use Rattle.std.proofs.Common.{◌≡◌, map, take}
use Rattle.world_script.specs.Script.{kind_name}
use Rattle.world_script.proofs.nodes.read_kinds.Given as goal

abbrev pub invariant-loop-word : goal.invariant-loop-word
invariant-loop-word l = map kind_name l.kinds.items ≡ take l.word-index (map (λ w. w.now) l.words)
