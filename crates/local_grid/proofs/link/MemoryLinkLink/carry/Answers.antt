use Rattle.std.proofs.Common.{◌∙◌}
use Rattle.local_grid.proofs.FrameLaws.{read_of}
use Rattle.local_grid.proofs.link.MemoryLinkLink.carry.Goals as goal

pub returns-clause-ok : goal.returns-clause-ok
returns-clause-ok c =
    read_of c.args.message.now c.message_of.result c.deref.result.now c.encode_to.ensures.right (c.deref.ensures.value ∙ c.in_ok-encode_to.ensures.frame) c.message_of.ensures.some c.message_of.ensures.none
