use Rattle.std.proofs.Common.{arith}
use Rattle.wire.proofs.MessageLaws.{found_from, only_from, kind_from, fields_from, length_from}
use Rattle.wire.proofs.decoding.decode.Goals as goal

pub returns-clause-found : goal.returns-clause-found
returns-clause-found c = found_from c.args.body.now c.decode_exactly.result (λ i. omega (arith, c.type_inv.body i)) c.decode_exactly.ensures

pub returns-clause-only : goal.returns-clause-only
returns-clause-only c = λ m fits same. only_from c.args.body.now c.decode_exactly.result m c.decode_exactly.ensures fits same

pub returns-clause-bad_kind : goal.returns-clause-bad_kind
returns-clause-bad_kind c = kind_from c.args.body.now c.decode_exactly.result c.decode_exactly.ensures

pub returns-clause-bad_fields : goal.returns-clause-bad_fields
returns-clause-bad_fields c = fields_from c.args.body.now c.decode_exactly.result c.decode_exactly.ensures

pub returns-clause-bad_length : goal.returns-clause-bad_length
returns-clause-bad_length c = length_from c.args.body.now c.decode_exactly.result c.decode_exactly.ensures
