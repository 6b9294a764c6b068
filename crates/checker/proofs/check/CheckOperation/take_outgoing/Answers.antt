use Rattle.std.proofs.Common.{subst}
use Rattle.request_record.specs.Follow.{Follows, Nothing}
use Rattle.checker.specs.Book.{state_of}
use Rattle.checker.specs.State.{CheckState}
use Rattle.checker.proofs.Following.{follows_takes}
use Rattle.checker.proofs.Own.{own_sent}
use Rattle.checker.proofs.check.CheckOperation.take_outgoing.Goals as goal

pub returns-clause-follows : goal.returns-clause-follows
returns-clause-follows c =
    let s = c.self.inside in
    let servers = s.servers.items in
    let sent = state_of c.take_outgoing.new.self servers s.status in
    subst (λ (d : CheckState). Follows Nothing d.requests sent.requests) c.self.view_is
    (follows_takes (state_of s.machine servers s.status) sent c.take_outgoing.result (c.take_outgoing.ensures.takes servers s.status))

pub invariant_of-self : goal.invariant_of-self
invariant_of-self c =
    let servers = c.self.inside.servers.items in
    let status = c.self.inside.status in (
      c.take_outgoing.ensures.kept status c.self.invariant.0,
      own_sent (state_of c.self.inside.machine servers status) (state_of c.take_outgoing.new.self servers status) c.take_outgoing.result (c.take_outgoing.ensures.takes servers status) c.self.invariant.1,
    )
