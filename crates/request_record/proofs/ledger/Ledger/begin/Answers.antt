use Rattle.std.proofs.Common.{sym, ◌∙◌, ap}
use Rattle.request_record.specs.declared.requests.Asked.TheVariants.{Holdings}
use Rattle.request_record.specs.Record.{asked_more}
use Rattle.request_record.proofs.RecordLaws.{begun_more}
use Rattle.request_record.proofs.ledger.Ledger.begin.Goals as goal

pub loop-server-preserved : goal.loop-server-preserved
loop-server-preserved c =
    c.in_ok-ask.ensures.ok ∙ ap (asked_more _ Holdings) c.loop-server.invariant ∙ sym (begun_more c.args.servers.now c.loop-server.server-index c.args.session c.args.now c.loop-server-test.true)
