use Rattle.std.proofs.Common.{◌≡◌, Err, rules}
use Rattle.grid_gets.specs.Spans.{reached_by}
use Rattle.grid_gets.proofs.SpanLemmas.{done_to, err_on, if_err, leads_among, same_among, stops_among, stops_first, stops_there, then_err, then_ok}
use Rattle.grid_gets.proofs.spans.Spans.write_span.Goals as goal

pub returns-in_err-trusted-clause-err : goal.returns-in_err-trusted-clause-err
returns-in_err-trusted-clause-err g c = if_err _ _ (stops_first _ c.args.cap.now c.args.servers.now c.args.self.now c.args.from c.args.to _ c.requires.ordered)

pub returns-in_err-try_span-clause-err : goal.returns-in_err-try_span-clause-err
returns-in_err-try_span-clause-err g c =
    let handed : c.from_residual-in_err-try_span.result ≡ Err c.in_err-try_span.field-0.0 = search rules in
    err_on c.from_residual-in_err-try_span.result c.in_err-try_span.field-0.0 _ _ handed
    (stops_among _ c.args.cap.now c.as_slice.result.now c.args.servers.now (same_among c.args.servers.now _ _ c.as_slice.ensures.value c.in_ok-trusted.ensures.some) c.args.self.now c.args.from _ c.args.to _) c.in_err-try_span.ensures.err

pub returns-in-Done-clause-ok : goal.returns-in-Done-clause-ok
returns-in-Done-clause-ok g c =
    done_to _ c.args.cap.now c.args.servers.now c.args.self.now c.try_span.new.self c.args.from c.args.to _ _ c.in_ok-try_span.field-0 c.in-Done.is
    (leads_among _ c.args.cap.now c.as_slice.result.now c.args.servers.now (same_among c.args.servers.now _ _ c.as_slice.ensures.value c.in_ok-trusted.ensures.some) c.args.self.now c.args.from _ c.try_span.new.self _ _ c.in_ok-try_span.ensures.ok)

pub returns-in-TooFew-clause-err : goal.returns-in-TooFew-clause-err
returns-in-TooFew-clause-err g c =
    stops_there _ c.args.cap.now c.args.servers.now c.args.self.now c.try_span.new.self c.args.from (reached_by c.in_ok-try_span.field-0 c.args.to) c.args.to _ _
    (leads_among _ c.args.cap.now c.as_slice.result.now c.args.servers.now (same_among c.args.servers.now _ _ c.as_slice.ensures.value c.in_ok-trusted.ensures.some) c.args.self.now c.args.from _ c.try_span.new.self _ _ c.in_ok-try_span.ensures.ok) c.in_ok-try_span.ensures.within

pub returns-clause-ok : goal.returns-clause-ok
returns-clause-ok g c =
    then_ok _ c.args.cap.now c.args.servers.now c.args.self.now c.try_span.new.self c.try_all.new.self c.args.from c.args.to c.in-TooFew.field-0 _ _ _ c.in_ok-try_span.field-0 c.in-TooFew.is
    (leads_among _ c.args.cap.now c.as_slice.result.now c.args.servers.now (same_among c.args.servers.now _ _ c.as_slice.ensures.value c.in_ok-trusted.ensures.some) c.args.self.now c.args.from _ c.try_span.new.self _ _ c.in_ok-try_span.ensures.ok) c.try_all.result c.try_all.ensures.ok

pub returns-clause-err : goal.returns-clause-err
returns-clause-err g c =
    then_err _ c.args.cap.now c.args.servers.now c.args.self.now c.try_span.new.self c.try_all.new.self c.args.from c.args.to c.in-TooFew.field-0 _ _ _ c.in_ok-try_span.field-0 c.in-TooFew.is
    (leads_among _ c.args.cap.now c.as_slice.result.now c.args.servers.now (same_among c.args.servers.now _ _ c.as_slice.ensures.value c.in_ok-trusted.ensures.some) c.args.self.now c.args.from _ c.try_span.new.self _ _ c.in_ok-try_span.ensures.ok) c.try_all.result c.try_all.ensures.err
