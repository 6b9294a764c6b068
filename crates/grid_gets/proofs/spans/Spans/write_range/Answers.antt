use Rattle.std.proofs.Common.{◌≡◌, Err, rules}
use Rattle.grid_gets.proofs.SpanLemmas.{err_on, leads_none, leads_trans, stops_after, stops_wider}
use Rattle.grid_gets.proofs.spans.Spans.write_range.Goals as goal

pub spans-init : goal.spans-init
spans-init g c = record { within = c.requires.ordered; leads = leads_none _ _ _ c.args.self.now c.args.range.now.from _ }

pub spans-preserved : goal.spans-preserved
spans-preserved g c = record {
  within = c.span_end-to.ensures.within;
  leads = leads_trans _ c.args.cap.now c.args.servers.now c.args.self.now c.spans.self c.write_span.new.self c.args.range.now.from c.spans.from c.span_end-to.result _ _ _ c.spans.invariant.leads c.in_ok-write_span.ensures.ok;
}

pub returns-in_err-write_span-clause-err : goal.returns-in_err-write_span-clause-err
returns-in_err-write_span-clause-err g c =
    let handed : c.from_residual.result ≡ Err c.in_err-write_span.field-0.0 = search rules in
    err_on c.from_residual.result c.in_err-write_span.field-0.0 _ _ handed
    (λ s. stops_wider _ c.args.cap.now c.args.servers.now c.args.self.now c.args.range.now.from c.span_end-to.result c.args.range.now.to _ _ c.span_end-to.ensures.within
    (stops_after _ c.args.cap.now c.args.servers.now c.args.self.now c.spans.self c.args.range.now.from c.spans.from c.span_end-to.result _ _ _ c.spans.invariant.leads s))
    c.in_err-write_span.ensures.err
