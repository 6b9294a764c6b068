use Rattle.std.proofs.Common.{◌∙◌, ap, map}
use Rattle.std.proofs.lemmas.List.{take_all}
use Rattle.upload_core.specs.declared.status.ServerInfo.{ServerInfo}
use Rattle.grid_faults.specs.Servers.{server_of}
use Rattle.grid_faults.proofs.Numbers.{nodes_of}
use Rattle.grid_faults.proofs.servers.servers_of.Goals as goal

pub returns-clause-servers : goal.returns-clause-servers
returns-clause-servers c =
    c.loop-number.invariant
    ∙ ap (map server_of) (take_all c.loop-number.number-index c.args.numbers.now c.loop-number-test.false)

pub returns-clause-nodes : goal.returns-clause-nodes
returns-clause-nodes c =
    ap (map (λ (s : ServerInfo). s.node)) (returns-clause-servers c) ∙ nodes_of c.args.numbers.now
