use Rattle.std.proofs.Common.{subst}
use Rattle.request_record.specs.Asking.{after_message}
use Rattle.request_record.specs.Follow.{Follows, IsSaid}
use Rattle.checker.specs.Moves.{Advances, Stops}
use Rattle.checker.specs.State.{CheckState}
use Rattle.checker.specs.Book.{state_of}
use Rattle.checker.specs.declared.status.CheckStatus.TheVariants.{Failed}
use Rattle.checker.proofs.Following.{follows_advances, follows_stops}
use Rattle.checker.proofs.Own.{own_message, own_stopped}
use Rattle.checker.proofs.check.CheckOperation.on_message.Goals as goal

pub returns-in-Ok-clause-ok : goal.returns-in-Ok-clause-ok
returns-in-Ok-clause-ok c =
    subst (λ (d : CheckState). Advances c.args.from c.args.message c.args.now d (state_of c.hear.new.self c.self.inside.servers.items c.in-Ok.status)) c.self.view_is (c.in-Ok.ensures.ok c.self.inside.servers.items)

pub returns-in-Err-clause-stops : goal.returns-in-Err-clause-stops
returns-in-Err-clause-stops c =
    subst (λ (d : CheckState). Stops (after_message c.args.from c.args.message c.args.now d.requests) d (state_of c.hear.new.self c.self.inside.servers.items Failed)) c.self.view_is (c.in-Err.ensures.err c.self.inside.servers.items)

pub returns-in-Ok-clause-follows : goal.returns-in-Ok-clause-follows
returns-in-Ok-clause-follows c =
    let s = c.self.inside in
    let servers = s.servers.items in
    let new = state_of c.hear.new.self servers c.in-Ok.status in
    subst (λ (d : CheckState). Follows (IsSaid c.args.from c.args.message d.requests.session) d.requests new.requests) c.self.view_is
    (follows_advances c.args.from c.args.message c.args.now (state_of s.machine servers s.status) new (c.in-Ok.ensures.ok servers))

pub returns-in-Err-clause-follows : goal.returns-in-Err-clause-follows
returns-in-Err-clause-follows c =
    let s = c.self.inside in
    let servers = s.servers.items in
    let new = state_of c.hear.new.self servers Failed in
    subst (λ (d : CheckState). Follows (IsSaid c.args.from c.args.message d.requests.session) d.requests new.requests) c.self.view_is
    (follows_stops c.args.from c.args.message c.args.now (state_of s.machine servers s.status) new (c.in-Err.ensures.err servers))

pub invariant_of-self : goal.invariant_of-self
invariant_of-self c =
    let servers = c.self.inside.servers.items in (
      c.in-Ok.ensures.kept,
      own_message c.args.from c.args.message c.args.now (state_of c.self.inside.machine servers c.self.inside.status) (state_of c.hear.new.self servers c.in-Ok.status) (c.in-Ok.ensures.ok servers) c.self.invariant.1,
    )

pub invariant_of-self-in-Err : goal.invariant_of-self-in-Err
invariant_of-self-in-Err c =
    let servers = c.self.inside.servers.items in (
      c.in-Err.ensures.failed,
      own_stopped c.args.from c.args.message c.args.now (state_of c.self.inside.machine servers c.self.inside.status) (state_of c.hear.new.self servers Failed) (c.in-Err.ensures.err servers) c.self.invariant.1,
    )
