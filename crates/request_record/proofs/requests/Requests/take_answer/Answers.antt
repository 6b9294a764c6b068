use Rattle.std.proofs.Common.{map, sym, ap, ◌∙◌, arith}
use Rattle.request_record.specs.Kept.{data_of}
use Rattle.request_record.specs.Record.{RequestsState}
use Rattle.request_record.proofs.KeptLaws.{as_many, counted_there, counted_data}
use Rattle.request_record.proofs.requests.Requests.take_answer.Goals as goal

pub index_mut-requires : goal.index_mut-requires
index_mut-requires c =
    let many = as_many _ c.self.inside.bytes.items c.self.inside.ledger.entries c.self.invariant in
    let there = counted_there c.args.from c.args.message c.self.inside.ledger c.in_ok-position.field-0.position (sym c.in_ok-position.ensures.position) in
    omega (arith, many, there, c.self.inside.bytes.ok.0)

pub invariant_of-self-2 : goal.invariant_of-self-2
invariant_of-self-2 c =
    counted_data _ c.self.inside.bytes.items c.args.from c.args.message c.args.now c.self.inside.ledger c.in_ok-position.field-0.position c.in_ok-position.field-0.bytes (sym c.in_ok-position.ensures.position) c.in_ok-position.ensures.bytes c.self.invariant
    ∙ ap (λ (s : RequestsState). map data_of s.entries) (sym c.take_answer.ensures.record)
