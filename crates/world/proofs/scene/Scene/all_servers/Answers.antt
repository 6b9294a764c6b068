use Rattle.std.proofs.Common.{List, ◌∙◌, ap, eqb, map, subst, sym}
use Rattle.std.specs.List.{IsDistinct}
use Rattle.upload_core.specs.declared.status.ServerInfo.{ServerInfo}
use Rattle.world.specs.State.{server_of}
use Rattle.world.proofs.Moving.{own_nodes}
use Rattle.world.proofs.scene.Scene.all_servers.Goals as goal

pub returns-clause-distinct : goal.returns-clause-distinct
returns-clause-distinct c =
    subst (λ (l : List ServerInfo). IsDistinct eqb (map (λ (s : ServerInfo). s.node) l)) (sym (c.in_ok-servers.ensures ∙ ap (map server_of) c.deref.ensures.value))
    (subst (IsDistinct eqb) (sym (own_nodes c.in_ok-nodes.nodes.items)) c.in_ok-nodes.ensures.distinct)
