use Rattle.std.proofs.Common.{◌≡◌, ◌∙◌, Option, Vec, Global, length, rules, subst}
use Rattle.std.specs.Prelude.{IfSome}
use Rattle.checker.specs.Good.{AreGoodShares}
use Rattle.checker.specs.State.{CheckState}
use Rattle.world.specs.State.{WorldState, state_of}
use Rattle.world.proofs.Repairing.{Share, hands_out, mending, mending_new, numbers_of, strings_of}
use Rattle.world.proofs.scene.Scene.mend.Goals as goal

pub returns-clause-begins : goal.returns-clause-begins
returns-clause-begins c =
    let w : WorldState = state_of c.args.self.now in
    let check : CheckState = c.args.check.now in
    let good : AreGoodShares check.cap check.requests.entries (numbers_of c.in-Some.good.items) (strings_of c.in-Some.good.items) =
    subst (λ (o : Option (Vec Share Global)). IfSome o (λ (l : Vec Share Global). AreGoodShares check.cap check.requests.entries (numbers_of l.items) (strings_of l.items))) c.in-Some.is
    c.in_ok-good.ensures.good in
    let session : c.len-session.result ≡ length w.operations = search rules in
    mending w c.args.node c.args.number c.args.happy check c.cap.result.now c.in-Some.good.items c.deref.result.now c.len-session.result c.in_ok-job.job c.in_ok-job.task
    c.requires.done c.cap.ensures good (c.deref.ensures.value ∙ c.in_ok-servers.ensures.all) session c.in_ok-job.ensures

pub returns-clause-new : goal.returns-clause-new
returns-clause-new c =
    let w : WorldState = state_of c.args.self.now in
    let session : c.len-session.result ≡ length w.operations = search rules in
    mending_new w c.args.happy c.args.check.now c.cap.result.now c.in-Some.good.items c.deref.result.now c.len-session.result c.in_ok-job.job c.in_ok-job.task
    c.requires.may c.cap.ensures (c.deref.ensures.value ∙ c.in_ok-servers.ensures.all) session c.in_ok-job.ensures

pub unreachable-requires : goal.unreachable-requires
unreachable-requires c =
    hands_out (state_of c.args.self.now) c.args.node c.args.number c.args.check.now c.requires.consistent c.requires.done (c.in_ok-good.ensures.none.0 c.in_default.is)
