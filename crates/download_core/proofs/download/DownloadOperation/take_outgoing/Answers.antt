use Rattle.std.proofs.Common.{◌∙◌, IfSome, subst, sym, true≢false}
use Rattle.request_record.specs.Follow.{Follows, Nothing}
use Rattle.request_record.proofs.FollowLaws.{follows_itself}
use Rattle.download_core.specs.Sections.{ReadsInSections}
use Rattle.download_core.specs.Sending.{Takes}
use Rattle.download_core.specs.State.{DownloadState}
use Rattle.download_core.specs.Steps.{state_of}
use Rattle.download_core.proofs.Following.{takes_follow}
use Rattle.download_core.proofs.SectionLemmas.{taken_lie}
use Rattle.download_core.proofs.download.DownloadOperation.take_outgoing.Goals.{After-take_outgoing}
use Rattle.download_core.proofs.download.DownloadOperation.take_outgoing.Goals as goal

pub returns-then-has_failed-clause-follows : goal.returns-then-has_failed-clause-follows
returns-then-has_failed-clause-follows c = follows_itself Nothing c.args.self.now.requests

pub invariant_of-self : goal.invariant_of-self
invariant_of-self c = c.take_outgoing.ensures.kept c.self.inside.status c.self.invariant

-- what the machine takes
taken : (c : After-take_outgoing) → Takes (state_of c.self.inside.machine c.self.inside.servers.items c.self.inside.status) c.take_outgoing.result (state_of c.take_outgoing.new.self c.self.inside.servers.items c.self.inside.status)
taken c =
    let s = c.self.inside in
    c.take_outgoing.ensures.takes s.servers.items s.status (λ failed. true≢false (sym (c.has_failed.ensures.1 failed) ∙ c.if-has_failed.false))

pub returns-clause-ok : goal.returns-clause-ok
returns-clause-ok c =
    let s = c.self.inside in
    subst (λ (d : DownloadState). Takes d c.take_outgoing.result (state_of c.take_outgoing.new.self s.servers.items s.status)) c.self.view_is (taken (goal.at.returns-clause-ok c).After-take_outgoing)

pub returns-clause-follows : goal.returns-clause-follows
returns-clause-follows c =
    let s = c.self.inside in
    let e = state_of c.take_outgoing.new.self s.servers.items s.status in
    subst (λ (d : DownloadState). Follows Nothing d.requests e.requests) c.self.view_is (takes_follow (state_of s.machine s.servers.items s.status) e c.take_outgoing.result (taken (goal.at.returns-clause-follows c).After-take_outgoing))

pub returns-clause-reads : goal.returns-clause-reads
returns-clause-reads c =
    let s = c.self.inside in
    let d : DownloadState = state_of s.machine s.servers.items s.status in
    subst (λ (e : DownloadState). IfSome c.take_outgoing.result (ReadsInSections e)) c.self.view_is
    (taken_lie d (state_of c.take_outgoing.new.self s.servers.items s.status) c.take_outgoing.result c.self.invariant.file c.know_right.ensures.file c.self.invariant.fair.reads (taken (goal.at.returns-clause-reads c).After-take_outgoing))
