use Rattle.grid_gets.specs.Spans.{reached_by}
use Rattle.grid_gets.proofs.SpanLemmas.{stops_there}
use Rattle.grid_gets.proofs.spans.Spans.try_all.Goals as goal

pub returns-in-TooFew-clause-err : goal.returns-in-TooFew-clause-err
returns-in-TooFew-clause-err g c =
    stops_there _ c.args.cap.now c.args.servers.now c.args.self.now c.try_span.new.self c.args.from (reached_by c.in_ok-try_span.field-0 c.args.to) c.args.to _ _ c.in_ok-try_span.ensures.ok c.in_ok-try_span.ensures.within
