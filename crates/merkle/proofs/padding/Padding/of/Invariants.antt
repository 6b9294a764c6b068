use Rattle.std.proofs.Common.{◌≡◌, length}
use Rattle.merkle.specs.Taking.{AreBeside}
use Rattle.merkle.proofs.padding.Padding.of.Given as goal

abbrev pub invariant-loop-i : goal.invariant-loop-i
invariant-loop-i l = record { full : length l.beside ≡ 21; right : AreBeside l.leaf_count l.beside }
