use Rattle.std.proofs.Common.{List, ◌∙◌, ap, eqb, length, map, rules, subst, sym}
use Rattle.std.specs.List.{IsDistinct}
use Rattle.upload_core.specs.declared.status.ServerInfo.{ServerInfo}
use Rattle.world_operations.specs.Moves.{Begins}
use Rattle.world_operations.proofs.Beginnings.{new_task}
use Rattle.world.specs.State.{WorldState, nodes_of, server_of, servers_of, state_of}
use Rattle.world.proofs.Moving.{own_nodes}
use Rattle.world.proofs.scene.Scene.begin.Goals as goal

pub begin-requires-clause-servers : goal.begin-requires-clause-servers
begin-requires-clause-servers c =
    subst (λ (l : List ServerInfo). IsDistinct eqb (map (λ (s : ServerInfo). s.node) l)) (sym (c.deref-2.ensures.value ∙ c.in_ok-servers.ensures ∙ ap (map server_of) c.deref.ensures.value))
    (subst (IsDistinct eqb) (sym (own_nodes c.in_ok-nodes.nodes.items)) c.in_ok-nodes.ensures.distinct)

pub returns-clause-new : goal.returns-clause-new
returns-clause-new c =
    let w : WorldState = state_of c.args.self.now in
    let begins : Begins c.args.job.now (servers_of w) (nodes_of w) (length w.operations) w.clock c.in_ok-task.task = search rules in
    new_task (servers_of w) (nodes_of w) (length w.operations) w.clock c.args.job.now c.in_ok-task.task c.in_ok-task.ensures.may begins
