use Rattle.std.proofs.Common.{◌≡◌, ◌∙◌, ◌++◌, ◌∷◌, [], ℕ, List, Result, Ok, Err, OnErr, ap, refl, subst, sym}
use Rattle.std.specs.declared.alloc.AllocError.{AllocError}
use Rattle.download_file.specs.Asked.{AsksNoMore}
use Rattle.download_file.specs.Changes.{IsSameFile, StaysAskedUp, StaysRead}
use Rattle.download_file.specs.Right.{IsFile}
use Rattle.download_file.specs.State.{FileState, IsLive, copies, file_state, giver, waiting_at, without}
use Rattle.download_file.proofs.EndFileLemmas.{can_give, has_put, put_asked_up}
use Rattle.download_file.proofs.GrowLemmas.{same_itself}
use Rattle.download_file.proofs.MoveLemmas.{HasMoved}
use Rattle.download_file.proofs.Fields.{seen}
use Rattle.download_file.proofs.file.PartialFile.put_aside.Goals as goal

pub leave-requires-clause-gives : goal.leave-requires-clause-gives
leave-requires-clause-gives c = λ position r among at. can_give (seen c.self.inside) position r c.self.invariant.0 at

-- ---- it is put aside

abbrev then : goal.After-leave → FileState
then c = file_state c.self.inside.handout c.self.inside.plan.first c.self.inside.plan.end c.self.inside.taken c.leave.new.readers.items c.leave.new.live.items c.push.new.self.items c.self.inside.groups.items

moved : (c : goal.After-leave) → HasMoved c.args.self.now (then c)
moved c =
    let f : FileState = seen c.self.inside in
    let live : IsLive f c.args.reader = subst (λ (s : FileState). IsLive s c.args.reader) (sym c.self.view_is) c.requires.live in
    subst (λ (s : FileState). HasMoved s (then c)) c.self.view_is
    (subst (λ (l : List ℕ). HasMoved f (record f { readers = c.leave.new.readers.items; live = l; aside = c.push.new.self.items })) (sym c.leave.ensures.live)
    (subst (λ (l : List ℕ). HasMoved f (record f { readers = c.leave.new.readers.items; live = without c.args.reader f.live; aside = l })) (sym c.in_ok-push.ensures.items)
    (has_put f c.args.reader c.self.invariant.0 c.leave.new.readers.items live c.leave.ensures.leaves)))

pub invariant_of-self-2 : goal.invariant_of-self-2
invariant_of-self-2 c = ((moved c).right, c.self.invariant.1)

pub returns-clause-copies : goal.returns-clause-copies
returns-clause-copies c = (moved c).same_copies

pub returns-clause-waiting : goal.returns-clause-waiting
returns-clause-waiting c = (moved c).waiting

pub returns-clause-asked : goal.returns-clause-asked
returns-clause-asked c = (moved c).asked

pub returns-clause-asked_up : goal.returns-clause-asked_up
returns-clause-asked_up c = λ other_gives other.
    let f : FileState = seen c.self.inside in
    let live : IsLive f c.args.reader = subst (λ (s : FileState). IsLive s c.args.reader) (sym c.self.view_is) c.requires.live in
    subst (λ (s : FileState). StaysAskedUp s (then c) other) c.self.view_is
    (subst (λ (l : List ℕ). StaysAskedUp f (record f { readers = c.leave.new.readers.items; live = l; aside = c.push.new.self.items }) other) (sym c.leave.ensures.live)
    (subst (λ (l : List ℕ). StaysAskedUp f (record f { readers = c.leave.new.readers.items; live = without c.args.reader f.live; aside = l }) other) (sym c.in_ok-push.ensures.items)
    (put_asked_up f c.args.reader c.self.invariant.0 c.leave.new.readers.items live c.leave.ensures.leaves (λ first. other_gives (ap giver (sym c.self.view_is) ∙ first)) other)))

pub returns-clause-reads : goal.returns-clause-reads
returns-clause-reads c = (moved c).reads

pub returns-clause-same : goal.returns-clause-same
returns-clause-same c = (moved c).same

pub returns-clause-right : goal.returns-clause-right
returns-clause-right c = (moved c).right

-- ---- memory is refused

on_err : (r : Result (Unit {0}) AllocError) (P : Type 0) → P → OnErr r P
on_err (Ok u) P is = tt
on_err (Err e) P is = is

abbrev unput_state : goal.After-from_residual → FileState
unput_state c = file_state c.self.inside.handout c.self.inside.plan.first c.self.inside.plan.end c.self.inside.taken c.self.inside.readers.items c.self.inside.live.items c.push.new.self.items c.self.inside.groups.items

unput : (c : goal.After-from_residual) → unput_state c ≡ c.args.self.now
unput c = let f : FileState = seen c.self.inside in ap (λ (l : List ℕ). record f { aside = l }) c.in_err-push.ensures.items ∙ c.self.view_is

pub invariant_of-self : goal.invariant_of-self
invariant_of-self c = (subst IsFile (sym (unput c)) (subst IsFile c.self.view_is c.self.invariant.0), c.self.invariant.1)

pub returns-in_err-push-clause-unchanged : goal.returns-in_err-push-clause-unchanged
returns-in_err-push-clause-unchanged c = on_err c.from_residual.result _ (unput c)

pub returns-in_err-push-clause-copies : goal.returns-in_err-push-clause-copies
returns-in_err-push-clause-copies c = ap copies (unput c)

pub returns-in_err-push-clause-waiting : goal.returns-in_err-push-clause-waiting
returns-in_err-push-clause-waiting c = λ other. ap (λ (s : FileState). waiting_at s other) (unput c)

pub returns-in_err-push-clause-asked : goal.returns-in_err-push-clause-asked
returns-in_err-push-clause-asked c = subst (AsksNoMore c.args.self.now) (sym (unput c)) (λ reader offset len. ((λ h. h), (λ h. h)))

pub returns-in_err-push-clause-asked_up : goal.returns-in_err-push-clause-asked_up
returns-in_err-push-clause-asked_up c = λ other_gives other. subst (λ (s : FileState). StaysAskedUp c.args.self.now s other) (sym (unput c)) (λ h. h)

pub returns-in_err-push-clause-reads : goal.returns-in_err-push-clause-reads
returns-in_err-push-clause-reads c = subst (StaysRead c.args.self.now) (sym (unput c)) (λ entries h. h)

pub returns-in_err-push-clause-handout : goal.returns-in_err-push-clause-handout
returns-in_err-push-clause-handout c = ap (λ (s : FileState). s.handout) (unput c)

pub returns-in_err-push-clause-same : goal.returns-in_err-push-clause-same
returns-in_err-push-clause-same c = subst (IsSameFile c.args.self.now) (sym (unput c)) (same_itself c.args.self.now)

pub returns-in_err-push-clause-right : goal.returns-in_err-push-clause-right
returns-in_err-push-clause-right c = subst IsFile (sym (unput c)) (subst IsFile c.self.view_is c.self.invariant.0)
