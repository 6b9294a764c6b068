use Rattle.std.proofs.Common.{◌<◌, ℕ, List, length, inr, subst, sym}
use Rattle.download_file.specs.State.{FileState, IsAside, file_state}
use Rattle.download_file.proofs.AsideLemmas.{HasResumed, by_result}
use Rattle.download_file.proofs.EndFileLemmas.{can_give}
use Rattle.download_file.proofs.StateLemmas.{heard_there}
use Rattle.download_file.proofs.Fields.{seen}
use Rattle.download_file.proofs.file.PartialFile.resume.Goals as goal

pub resume_reader-requires-clause-there : goal.resume_reader-requires-clause-there
resume_reader-requires-clause-there c =
    let f : FileState = seen c.self.inside in
    heard_there f c.args.reader c.self.invariant.0 (inr (subst (λ (s : FileState). IsAside s c.args.reader) (sym c.self.view_is) c.requires.aside))

pub resume_reader-requires-clause-gives : goal.resume_reader-requires-clause-gives
resume_reader-requires-clause-gives c = λ r at. can_give (seen c.self.inside) c.args.reader r c.self.invariant.0 at

abbrev then : goal.After-resume_reader → FileState
then c = file_state c.self.inside.handout c.self.inside.plan.first c.self.inside.plan.end c.self.inside.taken c.resume_reader.new.readers.items c.resume_reader.new.live.items c.resume_reader.new.aside.items c.self.inside.groups.items

resumed : (c : goal.After-resume_reader) → HasResumed c.args.self.now c.resume_reader.result (then c)
resumed c =
    let f : FileState = seen c.self.inside in
    let e = c.resume_reader.ensures in
    subst (λ (s : FileState). HasResumed s c.resume_reader.result (then c)) c.self.view_is
    (by_result f c.args.reader c.resume_reader.result c.resume_reader.new.readers.items c.resume_reader.new.live.items c.resume_reader.new.aside.items c.self.invariant.0
    (subst (λ (s : FileState). IsAside s c.args.reader) (sym c.self.view_is) c.requires.aside)
    (subst (λ (s : FileState). length s.live < s.handout.geometry.needed) (sym c.self.view_is) c.requires.few)
    e.live e.aside e.resumes e.same_live e.same_aside e.unchanged)

pub invariant_of-self : goal.invariant_of-self
invariant_of-self c = ((resumed c).moved.right, c.self.invariant.1)

pub returns-clause-unchanged : goal.returns-clause-unchanged
returns-clause-unchanged c = (resumed c).unchanged

pub returns-clause-copies : goal.returns-clause-copies
returns-clause-copies c = (resumed c).moved.same_copies

pub returns-clause-waiting : goal.returns-clause-waiting
returns-clause-waiting c = (resumed c).moved.waiting

pub returns-clause-asked : goal.returns-clause-asked
returns-clause-asked c = (resumed c).moved.asked

pub returns-clause-asked_up : goal.returns-clause-asked_up
returns-clause-asked_up c = (resumed c).asked_up

pub returns-clause-reads : goal.returns-clause-reads
returns-clause-reads c = (resumed c).moved.reads

pub returns-clause-same : goal.returns-clause-same
returns-clause-same c = (resumed c).moved.same

pub returns-clause-right : goal.returns-clause-right
returns-clause-right c = (resumed c).moved.right
