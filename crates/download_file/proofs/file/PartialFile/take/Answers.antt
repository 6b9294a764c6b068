use Rattle.std.proofs.Common.{refl, ◌≡◌, ◌∙◌, ◌∷◌, ◌<◌, [], inl, inr, ℕ, List, Err, Option, Some, None, ap, arith, subst, sym, length, slice_get, slice_set, rules}
use Rattle.std.specs.Prelude.{IsSome}
use Rattle.std.proofs.lemmas.Bool.{false≢true}
use Rattle.lemmas.proofs.Options.{one_there}
use Rattle.lemmas.proofs.Positions.{got}
use Rattle.request_record.specs.declared.requests.Request.{Request}
use Rattle.download_parts.specs.declared.error.TreeFault.TheVariants as faults
use Rattle.download_segments.specs.State.{HandoutState}
use Rattle.share_verify.specs.declared.check.Check.TheVariants as checks
use Rattle.download_file.specs.State.{FileState, IsHeard, ReaderState, copies, file_state, first_position, first_waiting, waiting_at, waiting_in}
use Rattle.download_file.specs.declared.reader.Waiting.{Waiting}
use Rattle.download_file.specs.Answers.{AnswersFirst, IsRead}
use Rattle.download_file.specs.Asked.{AsksNoMore}
use Rattle.download_file.specs.Changes.{HandsNothing, IsSameFile, StaysAskedUp}
use Rattle.download_file.specs.Right.{IsFile}
use Rattle.download_file.specs.Taking.{IsRefused}
use Rattle.download_file.proofs.GrowLemmas.{same_itself}
use Rattle.download_file.proofs.StateLemmas.{heard_there}
use Rattle.download_file.proofs.TakeLemmas.{HasTaken, front_is, has_taken, is_taker, same_still}
use Rattle.download_file.proofs.Fields.{seen}
use Rattle.download_file.proofs.file.PartialFile.take.Goals as goal

pub take_part-requires-clause-taker : goal.take_part-requires-clause-taker
take_part-requires-clause-taker c =
    let f : FileState = seen c.self.inside in
    let heard : IsHeard f c.args.reader = subst (λ (s : FileState). IsHeard s c.args.reader) (sym c.self.view_is) c.requires.heard in
    let low : c.args.reader < length f.readers = heard_there f c.args.reader c.self.invariant.0 heard in
    let r : ReaderState = c.index_mut.result.now in
    let at : slice_get f.readers c.args.reader ≡ Some r = got f.readers c.args.reader r low c.index_mut.ensures.value in
    let was : c.index.result.now ≡ r = one_there (slice_get f.readers c.args.reader) c.index.result.now r (got f.readers c.args.reader c.index.result.now low c.index.ensures) at in
    let front = front_is r.waiting c.in-Some.first (sym (ap (λ (q : ReaderState). slice_get q.waiting 0) was) ∙ sym c.first.ensures ∙ c.in-Some.is) in
    is_taker f f.handout.trees c.args.reader r r c.in-Some.first front.0 f.taken c.self.invariant.0 heard at front.1

-- ---- it is taken

abbrev then : goal.In_ok-take_part → FileState
then c = file_state c.take_part.new.handout c.self.inside.plan.first c.self.inside.plan.end c.take_part.new.taken (slice_set c.self.inside.readers.items c.args.reader c.take_part.new.reader) c.self.inside.live.items c.self.inside.aside.items c.self.inside.groups.items

taken : (c : goal.In_ok-take_part) → HasTaken c.args.self.now c.args.reader c.args.bytes.now (then c)
taken c =
    let f : FileState = seen c.self.inside in
    let heard : IsHeard f c.args.reader = subst (λ (s : FileState). IsHeard s c.args.reader) (sym c.self.view_is) c.requires.heard in
    let low : c.args.reader < length f.readers = heard_there f c.args.reader c.self.invariant.0 heard in
    let r : ReaderState = c.index_mut.result.now in
    let at : slice_get f.readers c.args.reader ≡ Some r = got f.readers c.args.reader r low c.index_mut.ensures.value in
    let was : c.index.result.now ≡ r = one_there (slice_get f.readers c.args.reader) c.index.result.now r (got f.readers c.args.reader c.index.result.now low c.index.ensures) at in
    let front = front_is r.waiting c.in-Some.first (sym (ap (λ (q : ReaderState). slice_get q.waiting 0) was) ∙ sym c.first.ensures ∙ c.in-Some.is) in
    subst (λ (s : FileState). HasTaken s c.args.reader c.args.bytes.now (then c)) c.self.view_is
    (has_taken f c.take_part.new.handout c.args.reader r c.take_part.new.reader c.in-Some.first front.0 c.take_part.new.taken c.args.bytes.now c.self.invariant.0 heard at front.1
    c.in_ok-take_part.ensures.taken c.if-bytes-first.false)

pub invariant_of-self-2 : goal.invariant_of-self-2
invariant_of-self-2 c = ((taken c).right, c.self.invariant.1 ∙ sym (ap (λ (h : HandoutState). h.geometry) c.in_ok-take_part.ensures.taken.handout))

pub returns-clause-right : goal.returns-clause-right
returns-clause-right c = (taken c).right

pub returns-clause-taken : goal.returns-clause-taken
returns-clause-taken c = (taken c).taken_is

pub returns-clause-copies : goal.returns-clause-copies
returns-clause-copies c = (taken c).copies_are

pub returns-clause-others : goal.returns-clause-others
returns-clause-others c = (taken c).others

pub returns-clause-asked : goal.returns-clause-asked
returns-clause-asked c = (taken c).asked

pub returns-clause-asked_up : goal.returns-clause-asked_up
returns-clause-asked_up c = (taken c).asked_up

pub returns-clause-reads : goal.returns-clause-reads
returns-clause-reads c = (taken c).reads

-- ---- it is refused

abbrev still : goal.After-from_residual → FileState
still c = file_state c.take_part.new.handout c.self.inside.plan.first c.self.inside.plan.end c.take_part.new.taken (slice_set c.self.inside.readers.items c.args.reader c.take_part.new.reader) c.self.inside.live.items c.self.inside.aside.items c.self.inside.groups.items

same : (c : goal.After-from_residual) → still c ≡ c.args.self.now
same c =
    let f : FileState = seen c.self.inside in
    let heard : IsHeard f c.args.reader = subst (λ (s : FileState). IsHeard s c.args.reader) (sym c.self.view_is) c.requires.heard in
    let low : c.args.reader < length f.readers = heard_there f c.args.reader c.self.invariant.0 heard in
    let r : ReaderState = c.index_mut.result.now in
    let at : slice_get f.readers c.args.reader ≡ Some r = got f.readers c.args.reader r low c.index_mut.ensures.value in
    let was : c.index.result.now ≡ r = one_there (slice_get f.readers c.args.reader) c.index.result.now r (got f.readers c.args.reader c.index.result.now low c.index.ensures) at in
    let front = front_is r.waiting c.in-Some.first (sym (ap (λ (q : ReaderState). slice_get q.waiting 0) was) ∙ sym c.first.ensures ∙ c.in-Some.is) in
    same_still f c.take_part.new.handout c.args.reader r c.take_part.new.reader c.take_part.new.taken at c.in_err-take_part.ensures.handout c.in_err-take_part.ensures.reader c.in_err-take_part.ensures.pieces
    ∙ c.self.view_is

right : (c : goal.After-from_residual) → IsFile (still c)
right c = subst IsFile (sym (same c)) (subst IsFile c.self.view_is c.self.invariant.0)

pub invariant_of-self : goal.invariant_of-self
invariant_of-self c = (right c, c.self.invariant.1 ∙ sym (ap (λ (h : HandoutState). h.geometry) c.in_err-take_part.ensures.handout))

pub returns-in_err-take_part-clause-right : goal.returns-in_err-take_part-clause-right
returns-in_err-take_part-clause-right c = right c

pub returns-in_err-take_part-clause-asked : goal.returns-in_err-take_part-clause-asked
returns-in_err-take_part-clause-asked c = subst (AsksNoMore c.args.self.now) (sym (same c)) (λ reader offset len. ((λ h. h), (λ h. h)))

pub returns-in_err-take_part-clause-asked_up : goal.returns-in_err-take_part-clause-asked_up
returns-in_err-take_part-clause-asked_up c = subst (λ (g : FileState). (other : ℕ) → StaysAskedUp c.args.self.now g other) (sym (same c)) (λ other h. h)

pub returns-in_err-take_part-clause-reads : goal.returns-in_err-take_part-clause-reads
returns-in_err-take_part-clause-reads c =
    subst (λ (g : FileState). (entries : List Request) → IsRead entries c.args.self.now → AnswersFirst entries c.args.self.now c.args.reader c.args.bytes.now
    → IsRead entries g) (sym (same c)) (λ entries read answered. read)

pub returns-in_err-take_part-clause-refused : goal.returns-in_err-take_part-clause-refused
returns-in_err-take_part-clause-refused c = λ check is.
    let f : FileState = seen c.self.inside in
    let heard : IsHeard f c.args.reader = subst (λ (s : FileState). IsHeard s c.args.reader) (sym c.self.view_is) c.requires.heard in
    let low : c.args.reader < length f.readers = heard_there f c.args.reader c.self.invariant.0 heard in
    let r : ReaderState = c.index_mut.result.now in
    let at : slice_get f.readers c.args.reader ≡ Some r = got f.readers c.args.reader r low c.index_mut.ensures.value in
    let was : c.index.result.now ≡ r = one_there (slice_get f.readers c.args.reader) c.index.result.now r (got f.readers c.args.reader c.index.result.now low c.index.ensures) at in
    let front = front_is r.waiting c.in-Some.first (sym (ap (λ (q : ReaderState). slice_get q.waiting 0) was) ∙ sym c.first.ensures ∙ c.in-Some.is) in
    let fault : c.in_err-take_part.field-0.0 ≡ faults.Check check = search rules in
    subst (λ (s : FileState). IsRefused s c.args.reader c.args.bytes.now check) c.self.view_is
    (record {
      r = r;
      there = at;
      first = c.in-Some.first;
      others = front.0;
      waits = front.1;
      why = inr (c.if-bytes-first.false, c.in_err-take_part.ensures.refused check (ap Err fault));
    })

pub returns-clause-same : goal.returns-clause-same
returns-clause-same c = (taken c).same

pub returns-in_err-take_part-clause-same : goal.returns-in_err-take_part-clause-same
returns-in_err-take_part-clause-same c = subst (IsSameFile c.args.self.now) (sym (same c)) (same_itself c.args.self.now)

-- ---- bytes of another length

pub returns-then-bytes-first-clause-right : goal.returns-then-bytes-first-clause-right
returns-then-bytes-first-clause-right c = subst IsFile c.self.view_is c.self.invariant.0

pub returns-then-bytes-first-clause-same : goal.returns-then-bytes-first-clause-same
returns-then-bytes-first-clause-same c = same_itself c.args.self.now

pub returns-then-bytes-first-clause-asked : goal.returns-then-bytes-first-clause-asked
returns-then-bytes-first-clause-asked c = λ reader offset len. ((λ h. h), (λ h. h))

pub returns-then-bytes-first-clause-asked_up : goal.returns-then-bytes-first-clause-asked_up
returns-then-bytes-first-clause-asked_up c = λ other h. h

pub returns-then-bytes-first-clause-reads : goal.returns-then-bytes-first-clause-reads
returns-then-bytes-first-clause-reads c = λ entries read answered. read

pub returns-then-bytes-first-clause-live : goal.returns-then-bytes-first-clause-live
returns-then-bytes-first-clause-live c = refl

pub returns-then-bytes-first-clause-copies : goal.returns-then-bytes-first-clause-copies
returns-then-bytes-first-clause-copies c = refl

pub returns-then-bytes-first-clause-others : goal.returns-then-bytes-first-clause-others
returns-then-bytes-first-clause-others c = λ other not. refl

pub returns-then-bytes-first-clause-handout : goal.returns-then-bytes-first-clause-handout
returns-then-bytes-first-clause-handout c = record { handout = refl; first = refl; end = refl }

pub returns-then-bytes-first-clause-unchanged : goal.returns-then-bytes-first-clause-unchanged
returns-then-bytes-first-clause-unchanged c = refl

-- ---- what a refusal does not touch

pub returns-in_err-take_part-clause-live : goal.returns-in_err-take_part-clause-live
returns-in_err-take_part-clause-live c = ap (λ (s : FileState). s.live) (same c)

pub returns-in_err-take_part-clause-copies : goal.returns-in_err-take_part-clause-copies
returns-in_err-take_part-clause-copies c = ap copies (same c)

pub returns-in_err-take_part-clause-others : goal.returns-in_err-take_part-clause-others
returns-in_err-take_part-clause-others c = λ other not. ap (λ (s : FileState). waiting_at s other) (same c)

pub returns-in_err-take_part-clause-handout : goal.returns-in_err-take_part-clause-handout
returns-in_err-take_part-clause-handout c = subst (HandsNothing c.args.self.now) (sym (same c)) (record { handout = refl; first = refl; end = refl })

pub returns-clause-live : goal.returns-clause-live
returns-clause-live c = ap (λ (s : FileState). s.live) c.self.view_is

pub returns-clause-aside : goal.returns-clause-aside
returns-clause-aside c = ap (λ (s : FileState). s.aside) c.self.view_is

pub returns-then-bytes-first-clause-aside : goal.returns-then-bytes-first-clause-aside
returns-then-bytes-first-clause-aside c = refl

pub returns-in_err-take_part-clause-aside : goal.returns-in_err-take_part-clause-aside
returns-in_err-take_part-clause-aside c = ap (λ (s : FileState). s.aside) (same c)

-- ---- the reader is there, and something waits of it

pub index_mut-requires : goal.index_mut-requires
index_mut-requires c =
    let f : FileState = seen c.self.inside in
    let heard : IsHeard f c.args.reader = subst (λ (s : FileState). IsHeard s c.args.reader) (sym c.self.view_is) c.requires.heard in
    let low : c.args.reader < length f.readers = heard_there f c.args.reader c.self.invariant.0 heard in
    let long = c.self.inside.readers.ok.0 in
    omega (arith, low, long)

none_first : (ws : List Waiting) → slice_get ws 0 ≡ None → first_position ws ≡ None
none_first [] e = refl
none_first (w ∷ ws) e = absurd (let k : Some w ≡ None = e in cc)

pub unreachable-requires : goal.unreachable-requires
unreachable-requires c =
    let f : FileState = seen c.self.inside in
    let heard : IsHeard f c.args.reader = subst (λ (s : FileState). IsHeard s c.args.reader) (sym c.self.view_is) c.requires.heard in
    let low : c.args.reader < length f.readers = heard_there f c.args.reader c.self.invariant.0 heard in
    let at : slice_get f.readers c.args.reader ≡ Some c.index.result.now = got f.readers c.args.reader c.index.result.now low c.index.ensures in
    let none : first_position c.index.result.now.waiting ≡ None = none_first c.index.result.now.waiting (sym c.first.ensures ∙ c.in_default.is) in
    let here : first_waiting f c.args.reader ≡ None = ap (λ (o : Option ReaderState). first_position (waiting_in o)) at ∙ none in
    absurd (false≢true (subst IsSome (ap (λ (s : FileState). first_waiting s c.args.reader) (sym c.self.view_is) ∙ here) c.requires.waits))

pub returns-then-bytes-first-clause-refused : goal.returns-then-bytes-first-clause-refused
returns-then-bytes-first-clause-refused c = λ check is.
    let f : FileState = seen c.self.inside in
    let heard : IsHeard f c.args.reader = subst (λ (s : FileState). IsHeard s c.args.reader) (sym c.self.view_is) c.requires.heard in
    let low : c.args.reader < length f.readers = heard_there f c.args.reader c.self.invariant.0 heard in
    let r : ReaderState = c.index.result.now in
    let at : slice_get f.readers c.args.reader ≡ Some r = got f.readers c.args.reader r low c.index.ensures in
    let front = front_is r.waiting c.in-Some.first (sym c.first.ensures ∙ c.in-Some.is) in
    let fault : check ≡ checks.Layout = cc in
    subst (λ (s : FileState). IsRefused s c.args.reader c.args.bytes.now check) c.self.view_is
    (record {
      r = r;
      there = at;
      first = c.in-Some.first;
      others = front.0;
      waits = front.1;
      why = inl (fault, c.if-bytes-first.true);
    })
