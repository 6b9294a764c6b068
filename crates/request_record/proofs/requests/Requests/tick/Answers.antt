use Rattle.std.proofs.Common.{◌∙◌}
use Rattle.request_record.proofs.KeptLaws.{ticked_either}
use Rattle.request_record.proofs.requests.Requests.tick.Goals as goal

pub invariant_of-self : goal.invariant_of-self
invariant_of-self c =
    c.self.invariant ∙ ticked_either c.tick.result c.args.now c.self.inside.ledger c.tick.new.self c.tick.ensures.ok c.tick.ensures.err
