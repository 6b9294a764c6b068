use Rattle.std.proofs.Common.{◌≡◌, ◌≢◌, ◌∙◌, ◌++◌, ◌∷◌, ◌<◌, [], ℕ, List, OnErr, Result, Ok, Err, true, ap, subst, sym, length, rules}
use Rattle.std.specs.declared.alloc.AllocError.{AllocError}
use Rattle.std.proofs.lemmas.Bool.{eq-eqb}
use Rattle.share_layout.specs.Geometry.{Geometry}
use Rattle.download_file.specs.Asked.{AsksNoMore}
use Rattle.download_file.specs.Changes.{IsSameFile, StaysAskedUp, StaysRead}
use Rattle.download_file.specs.Right.{IsFile}
use Rattle.download_file.specs.State.{FileState, IsHeard, IsReader, ReaderState, waiting_at, file_state}
use Rattle.download_file.specs.Steps.{IsBegun}
use Rattle.download_file.proofs.BeginLemmas.{HasBegun, has_begun}
use Rattle.download_file.proofs.GrowLemmas.{same_itself}
use Rattle.download_file.proofs.Fields.{seen}
use Rattle.download_file.proofs.file.PartialFile.begin.Goals as goal

abbrev then : goal.After-push_reserved → FileState
then c = file_state c.self.inside.handout c.self.inside.plan.first c.self.inside.plan.end c.self.inside.taken c.push_reserved.new.self.items c.push.new.self.items c.self.inside.aside.items c.self.inside.groups.items

begun : (c : goal.After-push_reserved) → HasBegun c.args.self.now c.args.server c.args.share (then c)
begun c =
    let f : FileState = seen c.self.inside in
    let x : ReaderState = c.begin_reader-begun.result in
    let k : IsBegun f.handout.geometry f.first c.in-Some.next f.end c.args.server c.args.share c.is_empty-gives.result f.taken x =
    subst (λ (g : Geometry). IsBegun g f.first c.in-Some.next f.end c.args.server c.args.share c.is_empty-gives.result f.taken x) c.self.invariant.1 c.begin_reader-begun.ensures in
    let readers : c.push_reserved.new.self.items ≡ f.readers ++ x ∷ [] = search rules in
    let live : c.push.new.self.items ≡ f.live ++ length f.readers ∷ [] = c.in_ok-push.ensures.items
    ∙ ap (λ (n : ℕ). f.live ++ n ∷ []) (c.len-reader.ensures ∙ c.self.inside.readers.ok.0) in
    subst (λ (s : FileState). HasBegun s c.args.server c.args.share (then c)) c.self.view_is
    (subst (λ (l : List ReaderState). HasBegun f c.args.server c.args.share (record f { readers = l; live = c.push.new.self.items })) (sym readers)
    (subst (λ (l : List ℕ). HasBegun f c.args.server c.args.share (record f { readers = f.readers ++ x ∷ []; live = l })) (sym live)
    (has_begun f c.args.server c.args.share c.in-Some.next x c.is_empty-gives.result c.self.invariant.0 (sym c.in-Some.ensures.value) k
    (subst (λ (s : FileState). c.args.share < s.handout.geometry.total) (sym c.self.view_is) c.requires.there)
    (subst (λ (s : FileState). length s.live < s.handout.geometry.needed) (sym c.self.view_is) c.requires.few)
    (subst (λ (s : FileState). (reader : ℕ) (r : ReaderState) → IsHeard s reader → IsReader s reader r → r.share ≢ c.args.share) (sym c.self.view_is) c.requires.unread))))

pub invariant_of-self-2 : goal.invariant_of-self-2
invariant_of-self-2 c = ((begun c).right, c.self.invariant.1)

pub returns-clause-right : goal.returns-clause-right
returns-clause-right c = (begun c).right

pub returns-clause-waiting : goal.returns-clause-waiting
returns-clause-waiting c = (begun c).waiting

pub returns-clause-asked : goal.returns-clause-asked
returns-clause-asked c = (begun c).asked

pub returns-clause-asked_up : goal.returns-clause-asked_up
returns-clause-asked_up c = (begun c).asked_up

pub returns-clause-reads : goal.returns-clause-reads
returns-clause-reads c = (begun c).reads

pub returns-clause-same : goal.returns-clause-same
returns-clause-same c = (begun c).same

-- ---- memory is refused

on_err : (r : Result ℕ AllocError) (P : Type 0) → P → OnErr r P
on_err (Ok n) P is = tt
on_err (Err e) P is = is

abbrev unreserved_state : goal.After-drop-begun-inside-in_err-reserve-2 → FileState
unreserved_state c = file_state c.self.inside.handout c.self.inside.plan.first c.self.inside.plan.end c.self.inside.taken c.reserve.new.self.items c.self.inside.live.items c.self.inside.aside.items c.self.inside.groups.items

unreserved : (c : goal.After-drop-begun-inside-in_err-reserve-2) → unreserved_state c ≡ c.args.self.now
unreserved c =
    let f : FileState = seen c.self.inside in
    ap (λ (l : List ReaderState). record f { readers = l }) c.in_err-reserve.ensures.items ∙ c.self.view_is

pub invariant_of-self : goal.invariant_of-self
invariant_of-self c = (subst IsFile (sym (unreserved c)) (subst IsFile c.self.view_is c.self.invariant.0), c.self.invariant.1)

pub returns-in_err-reserve-clause-waiting : goal.returns-in_err-reserve-clause-waiting
returns-in_err-reserve-clause-waiting c = λ reader. ap (λ (s : FileState). waiting_at s reader) (unreserved c)

pub returns-in_err-reserve-clause-asked : goal.returns-in_err-reserve-clause-asked
returns-in_err-reserve-clause-asked c = subst (AsksNoMore c.args.self.now) (sym (unreserved c)) (λ reader offset len. ((λ h. h), (λ h. h)))

pub returns-in_err-reserve-clause-asked_up : goal.returns-in_err-reserve-clause-asked_up
returns-in_err-reserve-clause-asked_up c = λ reader live.
    subst (λ (s : FileState). StaysAskedUp c.args.self.now s reader) (sym (unreserved c)) (λ h. h)

pub returns-in_err-reserve-clause-reads : goal.returns-in_err-reserve-clause-reads
returns-in_err-reserve-clause-reads c = subst (StaysRead c.args.self.now) (sym (unreserved c)) (λ entries h. h)

pub returns-in_err-reserve-clause-handout : goal.returns-in_err-reserve-clause-handout
returns-in_err-reserve-clause-handout c = ap (λ (s : FileState). s.handout) (unreserved c)

pub returns-in_err-reserve-clause-same : goal.returns-in_err-reserve-clause-same
returns-in_err-reserve-clause-same c = subst (IsSameFile c.args.self.now) (sym (unreserved c)) (same_itself c.args.self.now)

pub returns-in_err-reserve-clause-unchanged : goal.returns-in_err-reserve-clause-unchanged
returns-in_err-reserve-clause-unchanged c = on_err c.from_residual.result _ (unreserved c)

pub returns-in_err-reserve-clause-right : goal.returns-in_err-reserve-clause-right
returns-in_err-reserve-clause-right c = subst IsFile (sym (unreserved c)) (subst IsFile c.self.view_is c.self.invariant.0)

abbrev unpushed_state : goal.After-drop-begun-inside-in_err-push-3 → FileState
unpushed_state c = file_state c.self.inside.handout c.self.inside.plan.first c.self.inside.plan.end c.self.inside.taken c.reserve.new.self.items c.push.new.self.items c.self.inside.aside.items c.self.inside.groups.items

unpushed : (c : goal.After-drop-begun-inside-in_err-push-3) → unpushed_state c ≡ c.args.self.now
unpushed c =
    let f : FileState = seen c.self.inside in
    (λ i. record f { readers = c.in_ok-reserve.ensures.items i; live = c.in_err-push.ensures.items i }) ∙ c.self.view_is

pub invariant_of-self-in_err-push : goal.invariant_of-self-in_err-push
invariant_of-self-in_err-push c = (subst IsFile (sym (unpushed c)) (subst IsFile c.self.view_is c.self.invariant.0), c.self.invariant.1)

pub returns-in_err-push-clause-waiting : goal.returns-in_err-push-clause-waiting
returns-in_err-push-clause-waiting c = λ reader. ap (λ (s : FileState). waiting_at s reader) (unpushed c)

pub returns-in_err-push-clause-asked : goal.returns-in_err-push-clause-asked
returns-in_err-push-clause-asked c = subst (AsksNoMore c.args.self.now) (sym (unpushed c)) (λ reader offset len. ((λ h. h), (λ h. h)))

pub returns-in_err-push-clause-asked_up : goal.returns-in_err-push-clause-asked_up
returns-in_err-push-clause-asked_up c = λ reader live.
    subst (λ (s : FileState). StaysAskedUp c.args.self.now s reader) (sym (unpushed c)) (λ h. h)

pub returns-in_err-push-clause-reads : goal.returns-in_err-push-clause-reads
returns-in_err-push-clause-reads c = subst (StaysRead c.args.self.now) (sym (unpushed c)) (λ entries h. h)

pub returns-in_err-push-clause-handout : goal.returns-in_err-push-clause-handout
returns-in_err-push-clause-handout c = ap (λ (s : FileState). s.handout) (unpushed c)

pub returns-in_err-push-clause-same : goal.returns-in_err-push-clause-same
returns-in_err-push-clause-same c = subst (IsSameFile c.args.self.now) (sym (unpushed c)) (same_itself c.args.self.now)

pub returns-in_err-push-clause-unchanged : goal.returns-in_err-push-clause-unchanged
returns-in_err-push-clause-unchanged c = on_err c.from_residual-in_err-push.result _ (unpushed c)

pub returns-in_err-push-clause-right : goal.returns-in_err-push-clause-right
returns-in_err-push-clause-right c = subst IsFile (sym (unpushed c)) (subst IsFile c.self.view_is c.self.invariant.0)
