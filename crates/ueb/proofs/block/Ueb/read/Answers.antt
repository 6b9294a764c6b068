use Rattle.std.proofs.Common.{arith}
use Rattle.ueb.specs.declared.error.UebError.TheVariants.{Malformed, KeyOrder, MissingKey, Disagrees}
use Rattle.ueb.proofs.Refusals.{complete, refused}
use Rattle.ueb.proofs.block.Ueb.read.Goals as goal

pub returns-clause-complete : goal.returns-clause-complete
returns-clause-complete c = complete c.args.bytes.now c.args.expect.now c.verdict.result (omega arith) (record { is = c.verdict.ensures })

pub returns-clause-malformed : goal.returns-clause-malformed
returns-clause-malformed c = refused c.args.bytes.now c.args.expect.now c.verdict.result (omega arith) (record { is = c.verdict.ensures }) Malformed

pub returns-clause-key_order : goal.returns-clause-key_order
returns-clause-key_order c = refused c.args.bytes.now c.args.expect.now c.verdict.result (omega arith) (record { is = c.verdict.ensures }) KeyOrder

pub returns-clause-missing_key : goal.returns-clause-missing_key
returns-clause-missing_key c key = refused c.args.bytes.now c.args.expect.now c.verdict.result (omega arith) (record { is = c.verdict.ensures }) (MissingKey key)

pub returns-clause-disagrees : goal.returns-clause-disagrees
returns-clause-disagrees c key = refused c.args.bytes.now c.args.expect.now c.verdict.result (omega arith) (record { is = c.verdict.ensures }) (Disagrees key)
