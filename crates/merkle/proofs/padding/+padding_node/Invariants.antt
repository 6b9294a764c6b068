use Rattle.std.proofs.Common.{◌-◌}
use Rattle.merkle.proofs.padding.+padding_node.Given as goal

abbrev pub decreases-padding_node : goal.decreases-padding_node
decreases-padding_node l = l.height - l.row
