use Rattle.std.proofs.Common.{subst}
use Rattle.request_record.specs.Follow.{Follows, IsSaid}
use Rattle.carried_operations.specs.Fetches.{FetchState}
use Rattle.carried_operations.proofs.Asked.{asked_still, follows_heard}
use Rattle.carried_operations.proofs.fetch.FetchOperation.on_message.Goals as goal

pub invariant_of-self : goal.invariant_of-self
invariant_of-self c =
    let s = c.self.inside in
    asked_still (IsSaid c.args.from c.args.message s.requests.session) s.range s.requests c.take_answer.new.self
    (follows_heard c.args.from c.args.now c.args.message s.requests c.take_answer.new.self c.take_answer.ensures.record) c.self.invariant

pub returns-clause-follows : goal.returns-clause-follows
returns-clause-follows c =
    let s = c.self.inside in
    subst (λ (d : FetchState). Follows (IsSaid c.args.from c.args.message d.requests.session) d.requests c.take_answer.new.self) c.self.view_is
    (follows_heard c.args.from c.args.now c.args.message s.requests c.take_answer.new.self c.take_answer.ensures.record)
