use Rattle.std.proofs.Common.{ap, ◌∙◌, ◌≡◌, ℕ, arith}
use Rattle.request_record.specs.Asking.{fresh}
use Rattle.request_record.specs.Record.{asked_all}
use Rattle.carried_operations.specs.Ranges.{read_count}
use Rattle.carried_operations.proofs.Asked.{asked_next, asked_reads, first_reads}
use Rattle.carried_operations.proofs.fetch.Fetch.start.Goals as goal

pub reads-preserved : goal.reads-preserved
reads-preserved c = asked_next c.args.range c.reads.number c.args.session c.args.now c.reads.requests c.ask.new.self c.reads.invariant
    (cc (c.in_ok-ask.ensures.ok, c.read_at.ensures))

pub invariant_of-result : goal.invariant_of-result
invariant_of-result c =
    let all : c.reads.number ≡ read_count c.args.range.length = omega arith in
    asked_reads c.args.range c.args.session c.args.now c.reads.requests (c.reads.invariant ∙ ap (λ (n : ℕ). asked_all (first_reads c.args.range n) (fresh c.args.session c.args.now)) all)
