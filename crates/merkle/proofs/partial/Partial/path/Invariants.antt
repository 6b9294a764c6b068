use Rattle.std.proofs.Common.{◌≡◌, [], map, unwrap_or}
use Rattle.std.specs.List.{range_with_len}
use Rattle.merkle.specs.Tree.{height, sibling_number}
use Rattle.merkle.specs.Partial.{known_at}
use Rattle.merkle.proofs.partial.Partial.path.Given as goal

abbrev pub invariant-loop-i : goal.invariant-loop-i
invariant-loop-i l =
    l.siblings.items ≡ map (λ i. unwrap_or (known_at l.self (sibling_number (height l.self.leaf_count) l.leaf i)) []) (range_with_len 0 l.i)
