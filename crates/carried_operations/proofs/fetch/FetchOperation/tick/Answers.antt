use Rattle.std.proofs.Common.{subst}
use Rattle.request_record.specs.Follow.{Follows, Nothing}
use Rattle.carried_operations.specs.Fetches.{FetchState}
use Rattle.carried_operations.proofs.Asked.{asked_still, follows_ticked}
use Rattle.carried_operations.proofs.fetch.FetchOperation.tick.Goals as goal

pub invariant_of-self-2 : goal.invariant_of-self-2
invariant_of-self-2 c =
    let s = c.self.inside in
    asked_still Nothing s.range s.requests c.tick.new.self (follows_ticked c.args.now s.requests c.tick.new.self c.in_ok-tick.ensures.ok) c.self.invariant

pub returns-clause-follows : goal.returns-clause-follows
returns-clause-follows c =
    subst (λ (d : FetchState). Follows Nothing d.requests c.tick.new.self) c.self.view_is
    (follows_ticked c.args.now c.self.inside.requests c.tick.new.self c.in_ok-tick.ensures.ok)
