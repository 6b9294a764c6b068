use Rattle.ueb.proofs.Written.{is_written}
use Rattle.ueb.proofs.block.Ueb.write.Goals as goal

pub returns-clause-in_grammar : goal.returns-clause-in_grammar
returns-clause-in_grammar c = is_written c.args.self.now c.in_ok-text.field-0.items c.needed_shares.ensures.valid c.in_ok-text.ensures
