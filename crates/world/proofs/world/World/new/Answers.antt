use Rattle.std.proofs.Common.{◌∙◌, ◌+◌, ◌≤◌, arith, replicate, ap}
use Rattle.world.specs.State.{new_server}
use Rattle.world.proofs.Worlds.{new_is_kept}
use Rattle.world.proofs.world.World.new.Goals as goal

pub invariant_of-result : goal.invariant_of-result
invariant_of-result g c =
    let few : c.args.honest + c.len.result ≤ 256 = omega (arith, c.len.ensures, c.requires.few) in
    new_is_kept c.args.honest c.len.result c.in_ok-new_servers.field-0.items c.in_ok-new_heard.field-0.items c.new.result.items c.new-2.result.items few
    (c.in_ok-new_servers.ensures ∙ ap (λ n. replicate n new_server) c.from.ensures) c.in_ok-new_heard.ensures c.new.ensures.items c.new-2.ensures.items
