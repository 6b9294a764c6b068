use Rattle.std.proofs.Common.{◌+◌, ◌∙◌, ap, subst, sym}
use Rattle.grid_servers.proofs.Rising.{AreBelow, more_below, none_below, still_below}
use Rattle.grid_servers.proofs.servers.found_servers.Goals as goal
use Rattle.grid_servers.proofs.servers.found_servers.Goals.{then-branch+in_ok-push, else-branch}

pub loop-server-init : goal.loop-server-init
loop-server-init g c = none_below c.new-servers.result.items c.new-servers.ensures.items

pub loop-server-preserved : goal.loop-server-preserved
loop-server-preserved g c = elim c.if-branch.branch [
  | then-branch+in_ok-push w ↦ more_below c.loop-server.servers.items c.if-branch.servers.items c.loop-server.server c.loop-server.invariant (ap (λ v. v.items) w.servers-is ∙ w.in_ok-push.ensures.items)
  | else-branch w ↦ subst (λ v. AreBelow v.items (c.loop-server.server + 1)) (sym w.servers-is) (still_below c.loop-server.servers.items c.loop-server.server c.loop-server.invariant)
]
