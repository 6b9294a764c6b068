use Rattle.std.proofs.Common.{◌≡◌, map, take}
use Rattle.grid_lists.proofs.putting.bytes_of.Given as goal

abbrev pub invariant-loop-text : goal.invariant-loop-text
invariant-loop-text l = map (λ b. b.now) l.bytes.items ≡ map (λ t. t.now) (take l.text-index l.texts)
