use Rattle.std.proofs.Common.{◌∙◌, ap, sym}
use Rattle.request_record.specs.Record.{asked_more}
use Rattle.upload_core.proofs.Goes.{allocations_more}
use Rattle.upload_core.proofs.steps.allocate.Goals as goal

pub loop-server-preserved : goal.loop-server-preserved
loop-server-preserved c =
    c.in_ok-ask.ensures.ok ∙ ap (asked_more _ _) c.loop-server.invariant ∙ sym (allocations_more c.args.length c.args.pairs.now c.loop-server.server-index _ c.args.requests.now c.loop-server-test.true)
