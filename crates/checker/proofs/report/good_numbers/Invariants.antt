use Rattle.std.proofs.Common.{◌≡◌, ◌≤◌}
use Rattle.std.specs.Prelude.{nat_eq, count_by}
use Rattle.std.specs.List.{range_with_len}
use Rattle.std.specs.Set.{is_member}
use Rattle.placement.specs.Matching.{shares_of}
use Rattle.checker.proofs.report.good_numbers.Given as goal

-- the numbers so far are counted
abbrev pub invariant-loop-number : goal.invariant-loop-number
invariant-loop-number l =
    (l.count ≡ count_by (is_member nat_eq (shares_of l.pairs)) (range_with_len 0 l.number)) × (l.count ≤ l.number)
