use Rattle.request_record.specs.declared.entries.Entry.{Entry}
use Rattle.upload_core.proofs.Acked.{acked_on}
use Rattle.upload_core.proofs.acknowledged.acked_pairs.Goals as goal

pub loop-entry-preserved : goal.loop-entry-preserved
loop-entry-preserved c =
    acked_on (λ (e : Entry). e.request) c.args.goal.now c.args.entries.now c.loop-entry.entry-index c.entry-item.result c.loop-entry.pairs.items c.push_request.new.pairs.items c.loop-entry-test.true c.entry-item.is
    c.in_ok-push_request.ensures c.loop-entry.invariant
