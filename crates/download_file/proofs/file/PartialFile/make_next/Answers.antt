use Rattle.std.proofs.Common.{◌≡◌, ◌⊎◌, ◌∙◌, ◌*◌, ◌<◌, ℕ, All, List, Ok, Some, ap, inl, inr, subst, sym, length, refl, true}
use Rattle.std.proofs.lemmas.Bool.{true≢false}
use Rattle.std.proofs.lemmas.List.Elements.{All-contains}
use Rattle.lemmas.proofs.Members.{contains_at}
use Rattle.share_layout.specs.Geometry.{Geometry}
use Rattle.share_layout.specs.Pieces.{block_length}
use Rattle.proved_parts.specs.Decoding.{DecodesBlocks}
use Rattle.download_segments.specs.Decoding.{AreShareNumbers, blocks_in}
use Rattle.download_segments.specs.Handout.{next_segment}
use Rattle.download_segments.specs.NoCodeWord.{IsNoCodeWord}
use Rattle.download_segments.specs.State.{HandoutState}
use Rattle.download_segments.proofs.HandoutLemmas.{next_within}
use Rattle.download_segments.specs.GroupMaking.{RefutesBlocks}
use Rattle.download_segments.specs.GroupState.{GroupState}
use Rattle.download_file.specs.State.{FileState, IsComplete, ReaderState, numbers_of, file_state}
use Rattle.download_file.specs.Answers.{IsRead, blocks_of}
use Rattle.download_file.specs.Asked.{AsksNoMore}
use Rattle.download_file.specs.Changes.{IsSameFile, StaysAskedUp}
use Rattle.download_file.specs.Making.{CanNotGoOn, LacksNext, RefutesReader}
use Rattle.download_file.specs.Right.{IsFile, IsGroup}
use Rattle.download_file.specs.Steps.{AreProved, AreReady, BeginsGroup, HasAll, HasBlock, IsWrong, LacksSome}
use Rattle.download_file.proofs.GrowLemmas.{same_itself}
use Rattle.download_file.proofs.WaitLemmas.{cannot, complete, lacks_next}
use Rattle.download_file.proofs.MakeLemmas.{all_long, inconsistent_with, is_no_code_word, live_blocks, live_numbers, refutes_reader, right_blocks}
use Rattle.download_file.proofs.SegmentLemmas.{HasGroups, HasLast, HasMade, has_groups, has_last, has_made}
use Rattle.download_file.proofs.Fields.{seen}
use Rattle.download_file.proofs.file.PartialFile.make_next.Goals as goal

pub returns-then-not-has_all-clause-waits : goal.returns-then-not-has_all-clause-waits
returns-then-not-has_all-clause-waits c = λ _.
    let entries = c.args.requests.now.entries in
    let f : FileState = seen c.self.inside in
    let is : IsFile f = c.self.invariant.0 in
    let number : ℕ = c.in-Some.number in
    let next : next_segment f.handout ≡ Some number = sym c.in-Some.ensures.value in
    let lacks : LacksSome f.handout f.readers f.live number =
    subst (λ (l : List ℕ). LacksSome f.handout f.readers l number) c.deref-2.ensures.value
    (subst (λ (rs : List ReaderState). LacksSome f.handout rs c.deref-2.result.now number) c.deref.ensures.value (c.has_all.ensures.no c.if-not-has_all.true)) in
    subst CanNotGoOn c.self.view_is (cannot f number is next lacks)

pub returns-then-not-has_all-clause-prompt : goal.returns-then-not-has_all-clause-prompt
returns-then-not-has_all-clause-prompt c = λ _.
    let entries = c.args.requests.now.entries in
    let f : FileState = seen c.self.inside in
    let is : IsFile f = c.self.invariant.0 in
    let number : ℕ = c.in-Some.number in
    let next : next_segment f.handout ≡ Some number = sym c.in-Some.ensures.value in
    let lacks : LacksSome f.handout f.readers f.live number =
    subst (λ (l : List ℕ). LacksSome f.handout f.readers l number) c.deref-2.ensures.value
    (subst (λ (rs : List ReaderState). LacksSome f.handout rs c.deref-2.result.now number) c.deref.ensures.value (c.has_all.ensures.no c.if-not-has_all.true)) in
    subst (λ (s : FileState). IsComplete s ⊎ LacksNext s) c.self.view_is (inr (lacks_next f number is next lacks))

pub join_blocks-requires : goal.join_blocks-requires
join_blocks-requires c =
    let entries = c.args.requests.now.entries in
    let f : FileState = seen c.self.inside in
    let is : IsFile f = c.self.invariant.0 in
    let number : ℕ = c.in-Some.number in
    let next : next_segment f.handout ≡ Some number = sym c.in-Some.ensures.value in
    let read : IsRead entries f = subst (IsRead entries) (sym c.self.view_is) c.requires.reads in
    let all : HasAll f.handout f.readers f.live number =
    subst (λ (l : List ℕ). HasAll f.handout f.readers l number) c.deref-2.ensures.value
    (subst (λ (rs : List ReaderState). HasAll f.handout rs c.deref-2.result.now number) c.deref.ensures.value (c.has_all.ensures.yes c.if-not-has_all.false)) in
    let size : ℕ = c.block_length-size.result in
    let size_is : size ≡ block_length f.handout.geometry number = c.block_length-size.ensures.value ∙ ap (λ (g : Geometry). block_length g number) c.self.invariant.1 in
    subst (λ (rs : List ReaderState). All (HasBlock rs number size) c.deref-4.result.now) (sym c.deref-3.ensures.value)
    (subst (λ (l : List ℕ). All (HasBlock f.readers number size) l) (sym c.deref-4.ensures.value) (live_blocks entries f number size is read (next_within f.handout number is.handout next) size_is all.ready))

pub find_wrong-requires-clause-there : goal.find_wrong-requires-clause-there
find_wrong-requires-clause-there c =
    let entries = c.args.requests.now.entries in
    let f : FileState = seen c.self.inside in
    let is : IsFile f = c.self.invariant.0 in
    let number : ℕ = c.in-Some.number in
    let next : next_segment f.handout ≡ Some number = sym c.in-Some.ensures.value in
    subst (λ (rs : List ReaderState). All (λ position. position < length rs) c.deref-6.result.now) (sym c.deref-5.ensures.value)
    (subst (λ (l : List ℕ). All (λ position. position < length f.readers) l) (sym c.deref-6.ensures.value) is.live.there)

pub find_wrong-requires-clause-ready : goal.find_wrong-requires-clause-ready
find_wrong-requires-clause-ready c =
    let entries = c.args.requests.now.entries in
    let f : FileState = seen c.self.inside in
    let is : IsFile f = c.self.invariant.0 in
    let number : ℕ = c.in-Some.number in
    let next : next_segment f.handout ≡ Some number = sym c.in-Some.ensures.value in
    let read : IsRead entries f = subst (IsRead entries) (sym c.self.view_is) c.requires.reads in
    let all : HasAll f.handout f.readers f.live number =
    subst (λ (l : List ℕ). HasAll f.handout f.readers l number) c.deref-2.ensures.value
    (subst (λ (rs : List ReaderState). HasAll f.handout rs c.deref-2.result.now number) c.deref.ensures.value (c.has_all.ensures.yes c.if-not-has_all.false)) in
    let size : ℕ = c.block_length-size.result in
    let size_is : size ≡ block_length f.handout.geometry number = c.block_length-size.ensures.value ∙ ap (λ (g : Geometry). block_length g number) c.self.invariant.1 in
    subst (λ (rs : List ReaderState). AreReady rs c.deref-6.result.now number) (sym c.deref-5.ensures.value)
    (subst (λ (l : List ℕ). AreReady f.readers l number) (sym c.deref-6.ensures.value) all.ready)

pub find_wrong-requires-clause-long : goal.find_wrong-requires-clause-long
find_wrong-requires-clause-long c =
    let entries = c.args.requests.now.entries in
    let f : FileState = seen c.self.inside in
    let is : IsFile f = c.self.invariant.0 in
    let number : ℕ = c.in-Some.number in
    let next : next_segment f.handout ≡ Some number = sym c.in-Some.ensures.value in
    let read : IsRead entries f = subst (IsRead entries) (sym c.self.view_is) c.requires.reads in
    let all : HasAll f.handout f.readers f.live number =
    subst (λ (l : List ℕ). HasAll f.handout f.readers l number) c.deref-2.ensures.value
    (subst (λ (rs : List ReaderState). HasAll f.handout rs c.deref-2.result.now number) c.deref.ensures.value (c.has_all.ensures.yes c.if-not-has_all.false)) in
    let size : ℕ = c.block_length-size.result in
    let size_is : size ≡ block_length f.handout.geometry number = c.block_length-size.ensures.value ∙ ap (λ (g : Geometry). block_length g number) c.self.invariant.1 in
    let joins : c.in_ok-joined.joined.items ≡ blocks_of entries f.readers number f.live =
    c.in_ok-joined.ensures ∙ (λ i. blocks_of entries (c.deref-3.ensures.value i) number (c.deref-4.ensures.value i)) in
    ap length (c.deref-7.ensures.value ∙ joins) ∙ all_long entries f number size is read (next_within f.handout number is.handout next) size_is all.ready
    ∙ ap (λ (l : List ℕ). length l * size) (sym c.deref-6.ensures.value)

pub returns-in-Some-find_wrong-clause-wrong : goal.returns-in-Some-find_wrong-clause-wrong
returns-in-Some-find_wrong-clause-wrong c = λ reader is_wrong.
    let entries = c.args.requests.now.entries in
    let f : FileState = seen c.self.inside in
    let is : IsFile f = c.self.invariant.0 in
    let number : ℕ = c.in-Some.number in
    let next : next_segment f.handout ≡ Some number = sym c.in-Some.ensures.value in
    let read : IsRead entries f = subst (IsRead entries) (sym c.self.view_is) c.requires.reads in
    let all : HasAll f.handout f.readers f.live number =
    subst (λ (l : List ℕ). HasAll f.handout f.readers l number) c.deref-2.ensures.value
    (subst (λ (rs : List ReaderState). HasAll f.handout rs c.deref-2.result.now number) c.deref.ensures.value (c.has_all.ensures.yes c.if-not-has_all.false)) in
    let size : ℕ = c.block_length-size.result in
    let size_is : size ≡ block_length f.handout.geometry number = c.block_length-size.ensures.value ∙ ap (λ (g : Geometry). block_length g number) c.self.invariant.1 in
    let joins : c.in_ok-joined.joined.items ≡ blocks_of entries f.readers number f.live =
    c.in_ok-joined.ensures ∙ (λ i. blocks_of entries (c.deref-3.ensures.value i) number (c.deref-4.ensures.value i)) in
    let same : c.in-Some-find_wrong.wrong ≡ reader = cc in
    let wrong : IsWrong f.readers f.live number c.deref-7.result.now size c.in-Some-find_wrong.wrong =
    subst (λ (l : List ℕ). IsWrong f.readers l number c.deref-7.result.now size c.in-Some-find_wrong.wrong) c.deref-6.ensures.value
    (subst (λ (rs : List ReaderState). IsWrong rs c.deref-6.result.now number c.deref-7.result.now size c.in-Some-find_wrong.wrong) c.deref-5.ensures.value c.in-Some-find_wrong.ensures.wrong) in
    subst (λ (s : FileState). RefutesReader entries s reader) c.self.view_is
    (subst (λ (n : ℕ). RefutesReader entries f n) same
    (refutes_reader entries f number size is read (next_within f.handout number is.handout next) size_is all.ready next c.deref-7.result.now c.in-Some-find_wrong.wrong (c.deref-7.ensures.value ∙ joins) wrong))

pub begin_group-requires-clause-there : goal.begin_group-requires-clause-there
begin_group-requires-clause-there c =
    let entries = c.args.requests.now.entries in
    let f : FileState = seen c.self.inside in
    let is : IsFile f = c.self.invariant.0 in
    let number : ℕ = c.in-Some.number in
    let next : next_segment f.handout ≡ Some number = sym c.in-Some.ensures.value in
    subst (λ (rs : List ReaderState). All (λ position. position < length rs) c.deref-9.result.now) (sym c.deref-8.ensures.value)
    (subst (λ (l : List ℕ). All (λ position. position < length f.readers) l) (sym c.deref-9.ensures.value) is.live.there)

pub begin_group-requires-clause-shares : goal.begin_group-requires-clause-shares
begin_group-requires-clause-shares c =
    let entries = c.args.requests.now.entries in
    let f : FileState = seen c.self.inside in
    let is : IsFile f = c.self.invariant.0 in
    let number : ℕ = c.in-Some.number in
    let next : next_segment f.handout ≡ Some number = sym c.in-Some.ensures.value in
    let read : IsRead entries f = subst (IsRead entries) (sym c.self.view_is) c.requires.reads in
    let all : HasAll f.handout f.readers f.live number =
    subst (λ (l : List ℕ). HasAll f.handout f.readers l number) c.deref-2.ensures.value
    (subst (λ (rs : List ReaderState). HasAll f.handout rs c.deref-2.result.now number) c.deref.ensures.value (c.has_all.ensures.yes c.if-not-has_all.false)) in
    let size : ℕ = c.block_length-size.result in
    let size_is : size ≡ block_length f.handout.geometry number = c.block_length-size.ensures.value ∙ ap (λ (g : Geometry). block_length g number) c.self.invariant.1 in
    subst (λ (g : Geometry). AreShareNumbers g (numbers_of c.deref-8.result.now c.deref-9.result.now)) (sym c.self.invariant.1)
    (subst (λ (rs : List ReaderState). AreShareNumbers f.handout.geometry (numbers_of rs c.deref-9.result.now)) (sym c.deref-8.ensures.value)
    (subst (λ (l : List ℕ). AreShareNumbers f.handout.geometry (numbers_of f.readers l)) (sym c.deref-9.ensures.value) (live_numbers f is all.enough)))

pub make_segment-requires-clause-some : goal.make_segment-requires-clause-some
make_segment-requires-clause-some c =
    let entries = c.args.requests.now.entries in
    let f : FileState = seen c.self.inside in
    let is : IsFile f = c.self.invariant.0 in
    let number : ℕ = c.in-Some.number in
    let next : next_segment f.handout ≡ Some number = sym c.in-Some.ensures.value in
    let read : IsRead entries f = subst (IsRead entries) (sym c.self.view_is) c.requires.reads in
    let all : HasAll f.handout f.readers f.live number =
    subst (λ (l : List ℕ). HasAll f.handout f.readers l number) c.deref-2.ensures.value
    (subst (λ (rs : List ReaderState). HasAll f.handout rs c.deref-2.result.now number) c.deref.ensures.value (c.has_all.ensures.yes c.if-not-has_all.false)) in
    let size : ℕ = c.block_length-size.result in
    let size_is : size ≡ block_length f.handout.geometry number = c.block_length-size.ensures.value ∙ ap (λ (g : Geometry). block_length g number) c.self.invariant.1 in
    let joins : c.in_ok-joined.joined.items ≡ blocks_of entries f.readers number f.live =
    c.in_ok-joined.ensures ∙ (λ i. blocks_of entries (c.deref-3.ensures.value i) number (c.deref-4.ensures.value i)) in
    let begins : BeginsGroup f.groups f.handout.geometry f.readers f.live number c.begin_group.new.groups.items =
    subst (λ (g : Geometry). BeginsGroup f.groups g f.readers f.live number c.begin_group.new.groups.items) c.self.invariant.1
    (subst (λ (l : List ℕ). BeginsGroup f.groups c.self.inside.plan.geometry f.readers l number c.begin_group.new.groups.items) c.deref-9.ensures.value
    (subst (λ (rs : List ReaderState). BeginsGroup f.groups c.self.inside.plan.geometry rs c.deref-9.result.now number c.begin_group.new.groups.items) c.deref-8.ensures.value
    c.in_ok-begin_group.ensures.begins)) in
    let last : HasLast f number c.begin_group.new.groups.items = has_last f number c.begin_group.new.groups.items is next all.enough begins in
    last.some

pub make_segment-requires-clause-geometry : goal.make_segment-requires-clause-geometry
make_segment-requires-clause-geometry c = λ group at.
    let entries = c.args.requests.now.entries in
    let f : FileState = seen c.self.inside in
    let is : IsFile f = c.self.invariant.0 in
    let number : ℕ = c.in-Some.number in
    let next : next_segment f.handout ≡ Some number = sym c.in-Some.ensures.value in
    let read : IsRead entries f = subst (IsRead entries) (sym c.self.view_is) c.requires.reads in
    let all : HasAll f.handout f.readers f.live number =
    subst (λ (l : List ℕ). HasAll f.handout f.readers l number) c.deref-2.ensures.value
    (subst (λ (rs : List ReaderState). HasAll f.handout rs c.deref-2.result.now number) c.deref.ensures.value (c.has_all.ensures.yes c.if-not-has_all.false)) in
    let size : ℕ = c.block_length-size.result in
    let size_is : size ≡ block_length f.handout.geometry number = c.block_length-size.ensures.value ∙ ap (λ (g : Geometry). block_length g number) c.self.invariant.1 in
    let joins : c.in_ok-joined.joined.items ≡ blocks_of entries f.readers number f.live =
    c.in_ok-joined.ensures ∙ (λ i. blocks_of entries (c.deref-3.ensures.value i) number (c.deref-4.ensures.value i)) in
    let begins : BeginsGroup f.groups f.handout.geometry f.readers f.live number c.begin_group.new.groups.items =
    subst (λ (g : Geometry). BeginsGroup f.groups g f.readers f.live number c.begin_group.new.groups.items) c.self.invariant.1
    (subst (λ (l : List ℕ). BeginsGroup f.groups c.self.inside.plan.geometry f.readers l number c.begin_group.new.groups.items) c.deref-9.ensures.value
    (subst (λ (rs : List ReaderState). BeginsGroup f.groups c.self.inside.plan.geometry rs c.deref-9.result.now number c.begin_group.new.groups.items) c.deref-8.ensures.value
    c.in_ok-begin_group.ensures.begins)) in
    let last : HasLast f number c.begin_group.new.groups.items = has_last f number c.begin_group.new.groups.items is next all.enough begins in
    (All-contains (IsGroup f.handout f.readers) c.begin_group.new.groups.items group last.groups_are (contains_at c.begin_group.new.groups.items _ group at)).geometry

pub make_segment-requires-clause-long : goal.make_segment-requires-clause-long
make_segment-requires-clause-long c =
    let entries = c.args.requests.now.entries in
    let f : FileState = seen c.self.inside in
    let is : IsFile f = c.self.invariant.0 in
    let number : ℕ = c.in-Some.number in
    let next : next_segment f.handout ≡ Some number = sym c.in-Some.ensures.value in
    let read : IsRead entries f = subst (IsRead entries) (sym c.self.view_is) c.requires.reads in
    let all : HasAll f.handout f.readers f.live number =
    subst (λ (l : List ℕ). HasAll f.handout f.readers l number) c.deref-2.ensures.value
    (subst (λ (rs : List ReaderState). HasAll f.handout rs c.deref-2.result.now number) c.deref.ensures.value (c.has_all.ensures.yes c.if-not-has_all.false)) in
    let size : ℕ = c.block_length-size.result in
    let size_is : size ≡ block_length f.handout.geometry number = c.block_length-size.ensures.value ∙ ap (λ (g : Geometry). block_length g number) c.self.invariant.1 in
    let joins : c.in_ok-joined.joined.items ≡ blocks_of entries f.readers number f.live =
    c.in_ok-joined.ensures ∙ (λ i. blocks_of entries (c.deref-3.ensures.value i) number (c.deref-4.ensures.value i)) in
    ap length (c.deref-10.ensures.value ∙ joins) ∙ all_long entries f number size is read (next_within f.handout number is.handout next) size_is all.ready
    ∙ (λ i. all.enough i * size_is i)

-- ---- memory was refused

abbrev refused : goal.After-drop-joined-in_err-make_segment → FileState
refused c = file_state c.make_segment.new.handout c.self.inside.plan.first c.self.inside.plan.end c.self.inside.taken c.self.inside.readers.items c.self.inside.live.items c.self.inside.aside.items c.make_segment.new.groups.items

at_refusal : (c : goal.After-drop-joined-in_err-make_segment) → HasGroups c.args.requests.now.entries c.args.self.now (refused c)
at_refusal c =
    let entries = c.args.requests.now.entries in
    let f : FileState = seen c.self.inside in
    let is : IsFile f = c.self.invariant.0 in
    let number : ℕ = c.in-Some.number in
    let next : next_segment f.handout ≡ Some number = sym c.in-Some.ensures.value in
    let read : IsRead entries f = subst (IsRead entries) (sym c.self.view_is) c.requires.reads in
    let all : HasAll f.handout f.readers f.live number =
    subst (λ (l : List ℕ). HasAll f.handout f.readers l number) c.deref-2.ensures.value
    (subst (λ (rs : List ReaderState). HasAll f.handout rs c.deref-2.result.now number) c.deref.ensures.value (c.has_all.ensures.yes c.if-not-has_all.false)) in
    let size : ℕ = c.block_length-size.result in
    let size_is : size ≡ block_length f.handout.geometry number = c.block_length-size.ensures.value ∙ ap (λ (g : Geometry). block_length g number) c.self.invariant.1 in
    let joins : c.in_ok-joined.joined.items ≡ blocks_of entries f.readers number f.live =
    c.in_ok-joined.ensures ∙ (λ i. blocks_of entries (c.deref-3.ensures.value i) number (c.deref-4.ensures.value i)) in
    let begins : BeginsGroup f.groups f.handout.geometry f.readers f.live number c.begin_group.new.groups.items =
    subst (λ (g : Geometry). BeginsGroup f.groups g f.readers f.live number c.begin_group.new.groups.items) c.self.invariant.1
    (subst (λ (l : List ℕ). BeginsGroup f.groups c.self.inside.plan.geometry f.readers l number c.begin_group.new.groups.items) c.deref-9.ensures.value
    (subst (λ (rs : List ReaderState). BeginsGroup f.groups c.self.inside.plan.geometry rs c.deref-9.result.now number c.begin_group.new.groups.items) c.deref-8.ensures.value
    c.in_ok-begin_group.ensures.begins)) in
    let last : HasLast f number c.begin_group.new.groups.items = has_last f number c.begin_group.new.groups.items is next all.enough begins in
    let same = c.in_err-make_segment.ensures.same (λ e. cc) in
    subst (λ (s : FileState). HasGroups entries s (refused c)) c.self.view_is
    (has_groups entries f number c.begin_group.new.groups.items c.make_segment.new.groups.items c.make_segment.new.handout is read next last same.0 same.1)

pub invariant_of-self-in_err-make_segment : goal.invariant_of-self-in_err-make_segment
invariant_of-self-in_err-make_segment c = ((at_refusal c).right, c.self.invariant.1 ∙ sym (ap (λ (h : HandoutState). h.geometry) (c.in_err-make_segment.ensures.same (λ e. cc)).0))

pub returns-in_err-make_segment-clause-same_handout : goal.returns-in_err-make_segment-clause-same_handout
returns-in_err-make_segment-clause-same_handout c = λ _. (at_refusal c).handout_is

pub returns-in_err-make_segment-clause-asked_up : goal.returns-in_err-make_segment-clause-asked_up
returns-in_err-make_segment-clause-asked_up c = λ _. (at_refusal c).asked_up

pub returns-in_err-make_segment-clause-reads : goal.returns-in_err-make_segment-clause-reads
returns-in_err-make_segment-clause-reads c = (at_refusal c).reads

pub returns-in_err-make_segment-clause-same : goal.returns-in_err-make_segment-clause-same
returns-in_err-make_segment-clause-same c = (at_refusal c).same

pub returns-in_err-make_segment-clause-right : goal.returns-in_err-make_segment-clause-right
returns-in_err-make_segment-clause-right c = (at_refusal c).right

-- ---- the segment is refuted

abbrev refuted : goal.After-drop-joined-then-not-branch → FileState
refuted c = file_state c.make_segment.new.handout c.self.inside.plan.first c.self.inside.plan.end c.self.inside.taken c.self.inside.readers.items c.self.inside.live.items c.self.inside.aside.items c.make_segment.new.groups.items

at_refuted : (c : goal.After-drop-joined-then-not-branch) → HasGroups c.args.requests.now.entries c.args.self.now (refuted c)
at_refuted c =
    let entries = c.args.requests.now.entries in
    let f : FileState = seen c.self.inside in
    let is : IsFile f = c.self.invariant.0 in
    let number : ℕ = c.in-Some.number in
    let next : next_segment f.handout ≡ Some number = sym c.in-Some.ensures.value in
    let read : IsRead entries f = subst (IsRead entries) (sym c.self.view_is) c.requires.reads in
    let all : HasAll f.handout f.readers f.live number =
    subst (λ (l : List ℕ). HasAll f.handout f.readers l number) c.deref-2.ensures.value
    (subst (λ (rs : List ReaderState). HasAll f.handout rs c.deref-2.result.now number) c.deref.ensures.value (c.has_all.ensures.yes c.if-not-has_all.false)) in
    let size : ℕ = c.block_length-size.result in
    let size_is : size ≡ block_length f.handout.geometry number = c.block_length-size.ensures.value ∙ ap (λ (g : Geometry). block_length g number) c.self.invariant.1 in
    let joins : c.in_ok-joined.joined.items ≡ blocks_of entries f.readers number f.live =
    c.in_ok-joined.ensures ∙ (λ i. blocks_of entries (c.deref-3.ensures.value i) number (c.deref-4.ensures.value i)) in
    let begins : BeginsGroup f.groups f.handout.geometry f.readers f.live number c.begin_group.new.groups.items =
    subst (λ (g : Geometry). BeginsGroup f.groups g f.readers f.live number c.begin_group.new.groups.items) c.self.invariant.1
    (subst (λ (l : List ℕ). BeginsGroup f.groups c.self.inside.plan.geometry f.readers l number c.begin_group.new.groups.items) c.deref-9.ensures.value
    (subst (λ (rs : List ReaderState). BeginsGroup f.groups c.self.inside.plan.geometry rs c.deref-9.result.now number c.begin_group.new.groups.items) c.deref-8.ensures.value
    c.in_ok-begin_group.ensures.begins)) in
    let last : HasLast f number c.begin_group.new.groups.items = has_last f number c.begin_group.new.groups.items is next all.enough begins in
    let same = c.in_ok-make_segment.ensures.same (λ e. true≢false (let k : c.in_ok-make_segment.field-0 ≡ true = cc in sym k ∙ c.if-not-branch.true)) in
    subst (λ (s : FileState). HasGroups entries s (refuted c)) c.self.view_is
    (has_groups entries f number c.begin_group.new.groups.items c.make_segment.new.groups.items c.make_segment.new.handout is read next last same.0 same.1)

pub invariant_of-self-then-not-branch : goal.invariant_of-self-then-not-branch
invariant_of-self-then-not-branch c = ((at_refuted c).right, c.self.invariant.1 ∙ sym (ap (λ (h : HandoutState). h.geometry) (c.in_ok-make_segment.ensures.same (λ e. true≢false (let k : c.in_ok-make_segment.field-0 ≡ true = cc in sym k ∙ c.if-not-branch.true))).0))

pub returns-then-not-branch-clause-asked_up : goal.returns-then-not-branch-clause-asked_up
returns-then-not-branch-clause-asked_up c = λ _. (at_refuted c).asked_up

pub returns-then-not-branch-clause-reads : goal.returns-then-not-branch-clause-reads
returns-then-not-branch-clause-reads c = (at_refuted c).reads

pub returns-then-not-branch-clause-right : goal.returns-then-not-branch-clause-right
returns-then-not-branch-clause-right c = (at_refuted c).right

pub returns-then-not-branch-clause-inconsistent : goal.returns-then-not-branch-clause-inconsistent
returns-then-not-branch-clause-inconsistent c = λ _.
    let entries = c.args.requests.now.entries in
    let f : FileState = seen c.self.inside in
    let is : IsFile f = c.self.invariant.0 in
    let number : ℕ = c.in-Some.number in
    let next : next_segment f.handout ≡ Some number = sym c.in-Some.ensures.value in
    let read : IsRead entries f = subst (IsRead entries) (sym c.self.view_is) c.requires.reads in
    let all : HasAll f.handout f.readers f.live number =
    subst (λ (l : List ℕ). HasAll f.handout f.readers l number) c.deref-2.ensures.value
    (subst (λ (rs : List ReaderState). HasAll f.handout rs c.deref-2.result.now number) c.deref.ensures.value (c.has_all.ensures.yes c.if-not-has_all.false)) in
    let size : ℕ = c.block_length-size.result in
    let size_is : size ≡ block_length f.handout.geometry number = c.block_length-size.ensures.value ∙ ap (λ (g : Geometry). block_length g number) c.self.invariant.1 in
    let joins : c.in_ok-joined.joined.items ≡ blocks_of entries f.readers number f.live =
    c.in_ok-joined.ensures ∙ (λ i. blocks_of entries (c.deref-3.ensures.value i) number (c.deref-4.ensures.value i)) in
    let begins : BeginsGroup f.groups f.handout.geometry f.readers f.live number c.begin_group.new.groups.items =
    subst (λ (g : Geometry). BeginsGroup f.groups g f.readers f.live number c.begin_group.new.groups.items) c.self.invariant.1
    (subst (λ (l : List ℕ). BeginsGroup f.groups c.self.inside.plan.geometry f.readers l number c.begin_group.new.groups.items) c.deref-9.ensures.value
    (subst (λ (rs : List ReaderState). BeginsGroup f.groups c.self.inside.plan.geometry rs c.deref-9.result.now number c.begin_group.new.groups.items) c.deref-8.ensures.value
    c.in_ok-begin_group.ensures.begins)) in
    let last : HasLast f number c.begin_group.new.groups.items = has_last f number c.begin_group.new.groups.items is next all.enough begins in
    let joined : List ℕ = c.deref-10.result.now in
    let passed : AreProved c.deref-5.result.now c.deref-6.result.now number c.deref-7.result.now size (length c.deref-6.result.now) = c.in_default-find_wrong.ensures.right refl in
    let proved : AreProved f.readers f.live number joined size (length f.live) =
    subst (λ (l : List ℕ). AreProved f.readers f.live number l size (length f.live)) (c.deref-7.ensures.value ∙ sym c.deref-10.ensures.value)
    (subst (λ (l : List ℕ). AreProved f.readers l number c.deref-7.result.now size (length l)) c.deref-6.ensures.value
    (subst (λ (rs : List ReaderState). AreProved rs c.deref-6.result.now number c.deref-7.result.now size (length c.deref-6.result.now)) c.deref-5.ensures.value passed)) in
    let k : RefutesBlocks f.handout c.begin_group.new.groups.items number joined = c.in_ok-make_segment.ensures.refuted (ap Ok c.if-not-branch.true) in
    let own : IsGroup f.handout f.readers k.group = All-contains (IsGroup f.handout f.readers) c.begin_group.new.groups.items k.group last.groups_are (contains_at c.begin_group.new.groups.items _ k.group k.last) in
    let numbers : k.group.decoding.numbers ≡ numbers_of f.readers f.live = own.numbers ∙ ap (numbers_of f.readers) (last.last k.group k.last) in
    inconsistent_with entries f number joined k.segment k.group.decoding.numbers c.make_segment.new.handout c.make_segment.new.groups.items next all.enough
    (right_blocks entries f number size is read (next_within f.handout number is.handout next) size_is all.ready joined (c.deref-10.ensures.value ∙ joins) proved)
    (c.deref-10.ensures.value ∙ joins) numbers (subst (λ (g : Geometry). DecodesBlocks g k.group.decoding.numbers (blocks_in g number joined) number k.segment) own.geometry k.decodes) k.refuted
    (c.in_ok-make_segment.ensures.same (λ e. true≢false (let k : c.in_ok-make_segment.field-0 ≡ true = cc in sym k ∙ c.if-not-branch.true))).0

pub returns-then-not-branch-clause-no_code_word : goal.returns-then-not-branch-clause-no_code_word
returns-then-not-branch-clause-no_code_word c = λ _.
    let entries = c.args.requests.now.entries in
    let f : FileState = seen c.self.inside in
    let is : IsFile f = c.self.invariant.0 in
    let number : ℕ = c.in-Some.number in
    let next : next_segment f.handout ≡ Some number = sym c.in-Some.ensures.value in
    let read : IsRead entries f = subst (IsRead entries) (sym c.self.view_is) c.requires.reads in
    let all : HasAll f.handout f.readers f.live number =
    subst (λ (l : List ℕ). HasAll f.handout f.readers l number) c.deref-2.ensures.value
    (subst (λ (rs : List ReaderState). HasAll f.handout rs c.deref-2.result.now number) c.deref.ensures.value (c.has_all.ensures.yes c.if-not-has_all.false)) in
    let size : ℕ = c.block_length-size.result in
    let size_is : size ≡ block_length f.handout.geometry number = c.block_length-size.ensures.value ∙ ap (λ (g : Geometry). block_length g number) c.self.invariant.1 in
    let joins : c.in_ok-joined.joined.items ≡ blocks_of entries f.readers number f.live =
    c.in_ok-joined.ensures ∙ (λ i. blocks_of entries (c.deref-3.ensures.value i) number (c.deref-4.ensures.value i)) in
    let begins : BeginsGroup f.groups f.handout.geometry f.readers f.live number c.begin_group.new.groups.items =
    subst (λ (g : Geometry). BeginsGroup f.groups g f.readers f.live number c.begin_group.new.groups.items) c.self.invariant.1
    (subst (λ (l : List ℕ). BeginsGroup f.groups c.self.inside.plan.geometry f.readers l number c.begin_group.new.groups.items) c.deref-9.ensures.value
    (subst (λ (rs : List ReaderState). BeginsGroup f.groups c.self.inside.plan.geometry rs c.deref-9.result.now number c.begin_group.new.groups.items) c.deref-8.ensures.value
    c.in_ok-begin_group.ensures.begins)) in
    let last : HasLast f number c.begin_group.new.groups.items = has_last f number c.begin_group.new.groups.items is next all.enough begins in
    let joined : List ℕ = c.deref-10.result.now in
    let passed : AreProved c.deref-5.result.now c.deref-6.result.now number c.deref-7.result.now size (length c.deref-6.result.now) = c.in_default-find_wrong.ensures.right refl in
    let proved : AreProved f.readers f.live number joined size (length f.live) =
    subst (λ (l : List ℕ). AreProved f.readers f.live number l size (length f.live)) (c.deref-7.ensures.value ∙ sym c.deref-10.ensures.value)
    (subst (λ (l : List ℕ). AreProved f.readers l number c.deref-7.result.now size (length l)) c.deref-6.ensures.value
    (subst (λ (rs : List ReaderState). AreProved rs c.deref-6.result.now number c.deref-7.result.now size (length c.deref-6.result.now)) c.deref-5.ensures.value passed)) in
    let k : RefutesBlocks f.handout c.begin_group.new.groups.items number joined = c.in_ok-make_segment.ensures.refuted (ap Ok c.if-not-branch.true) in
    let own : IsGroup f.handout f.readers k.group = All-contains (IsGroup f.handout f.readers) c.begin_group.new.groups.items k.group last.groups_are (contains_at c.begin_group.new.groups.items _ k.group k.last) in
    let numbers : k.group.decoding.numbers ≡ numbers_of f.readers f.live = own.numbers ∙ ap (numbers_of f.readers) (last.last k.group k.last) in
    subst (λ (s : FileState). IsNoCodeWord s.handout.ueb) c.self.view_is
    (is_no_code_word entries f number size is read (next_within f.handout number is.handout next) size_is all.ready joined (c.deref-10.ensures.value ∙ joins) proved k.group.decoding.numbers k.segment numbers
    (subst (λ (g : Geometry). AreShareNumbers g k.group.decoding.numbers) own.geometry own.decoding)
    (subst (λ (g : Geometry). DecodesBlocks g k.group.decoding.numbers (blocks_in g number joined) number k.segment) own.geometry k.decodes) k.refuted)

-- ---- a piece is made

abbrev made : goal.After-drop-joined-2 → FileState
made c = file_state c.make_segment.new.handout c.self.inside.plan.first c.self.inside.plan.end c.self.inside.taken c.self.inside.readers.items c.self.inside.live.items c.self.inside.aside.items c.make_segment.new.groups.items

at_made : (c : goal.After-drop-joined-2) → HasMade c.args.requests.now.entries c.args.self.now (made c)
at_made c =
    let entries = c.args.requests.now.entries in
    let f : FileState = seen c.self.inside in
    let is : IsFile f = c.self.invariant.0 in
    let number : ℕ = c.in-Some.number in
    let next : next_segment f.handout ≡ Some number = sym c.in-Some.ensures.value in
    let read : IsRead entries f = subst (IsRead entries) (sym c.self.view_is) c.requires.reads in
    let all : HasAll f.handout f.readers f.live number =
    subst (λ (l : List ℕ). HasAll f.handout f.readers l number) c.deref-2.ensures.value
    (subst (λ (rs : List ReaderState). HasAll f.handout rs c.deref-2.result.now number) c.deref.ensures.value (c.has_all.ensures.yes c.if-not-has_all.false)) in
    let size : ℕ = c.block_length-size.result in
    let size_is : size ≡ block_length f.handout.geometry number = c.block_length-size.ensures.value ∙ ap (λ (g : Geometry). block_length g number) c.self.invariant.1 in
    let joins : c.in_ok-joined.joined.items ≡ blocks_of entries f.readers number f.live =
    c.in_ok-joined.ensures ∙ (λ i. blocks_of entries (c.deref-3.ensures.value i) number (c.deref-4.ensures.value i)) in
    let begins : BeginsGroup f.groups f.handout.geometry f.readers f.live number c.begin_group.new.groups.items =
    subst (λ (g : Geometry). BeginsGroup f.groups g f.readers f.live number c.begin_group.new.groups.items) c.self.invariant.1
    (subst (λ (l : List ℕ). BeginsGroup f.groups c.self.inside.plan.geometry f.readers l number c.begin_group.new.groups.items) c.deref-9.ensures.value
    (subst (λ (rs : List ReaderState). BeginsGroup f.groups c.self.inside.plan.geometry rs c.deref-9.result.now number c.begin_group.new.groups.items) c.deref-8.ensures.value
    c.in_ok-begin_group.ensures.begins)) in
    let last : HasLast f number c.begin_group.new.groups.items = has_last f number c.begin_group.new.groups.items is next all.enough begins in
    let passed : AreProved c.deref-5.result.now c.deref-6.result.now number c.deref-7.result.now size (length c.deref-6.result.now) = c.in_default-find_wrong.ensures.right refl in
    let proved : AreProved f.readers f.live number c.deref-10.result.now size (length f.live) =
    subst (λ (l : List ℕ). AreProved f.readers f.live number l size (length f.live)) (c.deref-7.ensures.value ∙ sym c.deref-10.ensures.value)
    (subst (λ (l : List ℕ). AreProved f.readers l number c.deref-7.result.now size (length l)) c.deref-6.ensures.value
    (subst (λ (rs : List ReaderState). AreProved rs c.deref-6.result.now number c.deref-7.result.now size (length c.deref-6.result.now)) c.deref-5.ensures.value passed)) in
    subst (λ (s : FileState). HasMade entries s (made c)) c.self.view_is
    (has_made entries f number c.begin_group.new.groups.items c.make_segment.new.groups.items c.deref-10.result.now is read next last
    (right_blocks entries f number size is read (next_within f.handout number is.handout next) size_is all.ready c.deref-10.result.now (c.deref-10.ensures.value ∙ joins) proved)
    (c.deref-10.ensures.value ∙ joins) c.make_segment.new.handout c.make_segment.ensures.right (c.in_ok-make_segment.ensures.made (ap Ok c.if-not-branch.false)))

pub invariant_of-self-2 : goal.invariant_of-self-2
invariant_of-self-2 c = ((at_made c).right, c.self.invariant.1 ∙ sym (ap (λ (h : HandoutState). h.geometry) (c.in_ok-make_segment.ensures.made (ap Ok c.if-not-branch.false)).handed))

pub returns-clause-ready : goal.returns-clause-ready
returns-clause-ready c = λ _. (at_made c).makes

pub returns-clause-reads : goal.returns-clause-reads
returns-clause-reads c = (at_made c).reads

pub returns-clause-right : goal.returns-clause-right
returns-clause-right c = (at_made c).right

pub returns-clause-same : goal.returns-clause-same
returns-clause-same c = (at_made c).same

pub returns-then-not-branch-clause-same : goal.returns-then-not-branch-clause-same
returns-then-not-branch-clause-same c = (at_refuted c).same

-- ---- no segment is wanted

pub returns-in_default-clause-waits : goal.returns-in_default-clause-waits
returns-in_default-clause-waits c = λ _.
    let f : FileState = seen c.self.inside in
    subst CanNotGoOn c.self.view_is (inl (complete f c.next.ensures.right (sym c.next.ensures.value ∙ c.in_default.is)))

pub returns-in_default-clause-prompt : goal.returns-in_default-clause-prompt
returns-in_default-clause-prompt c = λ _.
    let f : FileState = seen c.self.inside in
    subst (λ (s : FileState). IsComplete s ⊎ LacksNext s) c.self.view_is (inl (complete f c.next.ensures.right (sym c.next.ensures.value ∙ c.in_default.is)))

-- ---- no group is begun

pub returns-in_err-begin_group-clause-same : goal.returns-in_err-begin_group-clause-same
returns-in_err-begin_group-clause-same c =
    let f : FileState = seen c.self.inside in
    let unchanged : c.begin_group.new.groups.items ≡ f.groups = c.in_err-begin_group.ensures.unchanged in
    subst (λ (s : FileState). IsSameFile s (record f { groups = c.begin_group.new.groups.items })) c.self.view_is
    (subst (λ (gs : List GroupState). IsSameFile f (record f { groups = gs })) (sym unchanged) (same_itself f))

-- ---- nothing is touched

pub returns-in_default-clause-same_handout : goal.returns-in_default-clause-same_handout
returns-in_default-clause-same_handout c = λ _. refl

pub returns-in_default-clause-asked_up : goal.returns-in_default-clause-asked_up
returns-in_default-clause-asked_up c = λ _ reader h. h

pub returns-in_default-clause-reads : goal.returns-in_default-clause-reads
returns-in_default-clause-reads c = c.requires.reads

pub returns-in_default-clause-live : goal.returns-in_default-clause-live
returns-in_default-clause-live c = refl

pub returns-in_default-clause-aside : goal.returns-in_default-clause-aside
returns-in_default-clause-aside c = refl

pub returns-in_default-clause-readers : goal.returns-in_default-clause-readers
returns-in_default-clause-readers c = refl

pub returns-in_default-clause-asked : goal.returns-in_default-clause-asked
returns-in_default-clause-asked c = λ reader offset len. ((λ h. h), (λ h. h))

pub returns-in_default-clause-same : goal.returns-in_default-clause-same
returns-in_default-clause-same c = same_itself c.args.self.now

pub returns-in_default-clause-right : goal.returns-in_default-clause-right
returns-in_default-clause-right c = subst IsFile c.self.view_is c.self.invariant.0

pub returns-then-not-has_all-clause-same_handout : goal.returns-then-not-has_all-clause-same_handout
returns-then-not-has_all-clause-same_handout c = λ _. refl

pub returns-then-not-has_all-clause-asked_up : goal.returns-then-not-has_all-clause-asked_up
returns-then-not-has_all-clause-asked_up c = λ _ reader h. h

pub returns-then-not-has_all-clause-reads : goal.returns-then-not-has_all-clause-reads
returns-then-not-has_all-clause-reads c = c.requires.reads

pub returns-then-not-has_all-clause-live : goal.returns-then-not-has_all-clause-live
returns-then-not-has_all-clause-live c = refl

pub returns-then-not-has_all-clause-aside : goal.returns-then-not-has_all-clause-aside
returns-then-not-has_all-clause-aside c = refl

pub returns-then-not-has_all-clause-readers : goal.returns-then-not-has_all-clause-readers
returns-then-not-has_all-clause-readers c = refl

pub returns-then-not-has_all-clause-asked : goal.returns-then-not-has_all-clause-asked
returns-then-not-has_all-clause-asked c = λ reader offset len. ((λ h. h), (λ h. h))

pub returns-then-not-has_all-clause-same : goal.returns-then-not-has_all-clause-same
returns-then-not-has_all-clause-same c = same_itself c.args.self.now

pub returns-then-not-has_all-clause-right : goal.returns-then-not-has_all-clause-right
returns-then-not-has_all-clause-right c = subst IsFile c.self.view_is c.self.invariant.0

pub returns-in_err-joined-clause-same_handout : goal.returns-in_err-joined-clause-same_handout
returns-in_err-joined-clause-same_handout c = λ _. refl

pub returns-in_err-joined-clause-asked_up : goal.returns-in_err-joined-clause-asked_up
returns-in_err-joined-clause-asked_up c = λ _ reader h. h

pub returns-in_err-joined-clause-reads : goal.returns-in_err-joined-clause-reads
returns-in_err-joined-clause-reads c = c.requires.reads

pub returns-in_err-joined-clause-live : goal.returns-in_err-joined-clause-live
returns-in_err-joined-clause-live c = refl

pub returns-in_err-joined-clause-aside : goal.returns-in_err-joined-clause-aside
returns-in_err-joined-clause-aside c = refl

pub returns-in_err-joined-clause-readers : goal.returns-in_err-joined-clause-readers
returns-in_err-joined-clause-readers c = refl

pub returns-in_err-joined-clause-asked : goal.returns-in_err-joined-clause-asked
returns-in_err-joined-clause-asked c = λ reader offset len. ((λ h. h), (λ h. h))

pub returns-in_err-joined-clause-same : goal.returns-in_err-joined-clause-same
returns-in_err-joined-clause-same c = same_itself c.args.self.now

pub returns-in_err-joined-clause-right : goal.returns-in_err-joined-clause-right
returns-in_err-joined-clause-right c = subst IsFile c.self.view_is c.self.invariant.0

pub returns-in-Some-find_wrong-clause-same_handout : goal.returns-in-Some-find_wrong-clause-same_handout
returns-in-Some-find_wrong-clause-same_handout c = λ _. refl

pub returns-in-Some-find_wrong-clause-asked_up : goal.returns-in-Some-find_wrong-clause-asked_up
returns-in-Some-find_wrong-clause-asked_up c = λ _ reader h. h

pub returns-in-Some-find_wrong-clause-reads : goal.returns-in-Some-find_wrong-clause-reads
returns-in-Some-find_wrong-clause-reads c = c.requires.reads

pub returns-in-Some-find_wrong-clause-live : goal.returns-in-Some-find_wrong-clause-live
returns-in-Some-find_wrong-clause-live c = refl

pub returns-in-Some-find_wrong-clause-aside : goal.returns-in-Some-find_wrong-clause-aside
returns-in-Some-find_wrong-clause-aside c = refl

pub returns-in-Some-find_wrong-clause-readers : goal.returns-in-Some-find_wrong-clause-readers
returns-in-Some-find_wrong-clause-readers c = refl

pub returns-in-Some-find_wrong-clause-asked : goal.returns-in-Some-find_wrong-clause-asked
returns-in-Some-find_wrong-clause-asked c = λ reader offset len. ((λ h. h), (λ h. h))

pub returns-in-Some-find_wrong-clause-same : goal.returns-in-Some-find_wrong-clause-same
returns-in-Some-find_wrong-clause-same c = same_itself c.args.self.now

pub returns-in-Some-find_wrong-clause-right : goal.returns-in-Some-find_wrong-clause-right
returns-in-Some-find_wrong-clause-right c = subst IsFile c.self.view_is c.self.invariant.0

-- ---- no group is begun, and what the other ends do not touch

pub returns-in_err-begin_group-clause-same_handout : goal.returns-in_err-begin_group-clause-same_handout
returns-in_err-begin_group-clause-same_handout c = λ _. ap (λ (s : FileState). s.handout) c.self.view_is

pub returns-in_err-begin_group-clause-asked_up : goal.returns-in_err-begin_group-clause-asked_up
returns-in_err-begin_group-clause-asked_up c = λ _ reader.
    let f : FileState = seen c.self.inside in
    let kept : record f { groups = c.begin_group.new.groups.items } ≡ c.args.self.now = ap (λ (gs : List GroupState). record f { groups = gs }) c.in_err-begin_group.ensures.unchanged ∙ c.self.view_is in
    subst (λ (s : FileState). StaysAskedUp c.args.self.now s reader) (sym kept) (λ h. h)

pub returns-in_err-begin_group-clause-reads : goal.returns-in_err-begin_group-clause-reads
returns-in_err-begin_group-clause-reads c =
    let f : FileState = seen c.self.inside in
    let kept : record f { groups = c.begin_group.new.groups.items } ≡ c.args.self.now = ap (λ (gs : List GroupState). record f { groups = gs }) c.in_err-begin_group.ensures.unchanged ∙ c.self.view_is in
    subst (IsRead c.args.requests.now.entries) (sym kept) c.requires.reads

pub returns-in_err-begin_group-clause-live : goal.returns-in_err-begin_group-clause-live
returns-in_err-begin_group-clause-live c = ap (λ (s : FileState). s.live) c.self.view_is

pub returns-in_err-begin_group-clause-aside : goal.returns-in_err-begin_group-clause-aside
returns-in_err-begin_group-clause-aside c = ap (λ (s : FileState). s.aside) c.self.view_is

pub returns-in_err-begin_group-clause-readers : goal.returns-in_err-begin_group-clause-readers
returns-in_err-begin_group-clause-readers c = ap (λ (s : FileState). s.readers) c.self.view_is

pub returns-in_err-begin_group-clause-asked : goal.returns-in_err-begin_group-clause-asked
returns-in_err-begin_group-clause-asked c =
    let f : FileState = seen c.self.inside in
    let kept : record f { groups = c.begin_group.new.groups.items } ≡ c.args.self.now = ap (λ (gs : List GroupState). record f { groups = gs }) c.in_err-begin_group.ensures.unchanged ∙ c.self.view_is in
    subst (AsksNoMore c.args.self.now) (sym kept) (λ reader offset len. ((λ h. h), (λ h. h)))

pub returns-in_err-begin_group-clause-right : goal.returns-in_err-begin_group-clause-right
returns-in_err-begin_group-clause-right c =
    let f : FileState = seen c.self.inside in
    let kept : record f { groups = c.begin_group.new.groups.items } ≡ c.args.self.now = ap (λ (gs : List GroupState). record f { groups = gs }) c.in_err-begin_group.ensures.unchanged ∙ c.self.view_is in
    subst IsFile (sym kept) (subst IsFile c.self.view_is c.self.invariant.0)

pub returns-in_err-make_segment-clause-live : goal.returns-in_err-make_segment-clause-live
returns-in_err-make_segment-clause-live c = ap (λ (s : FileState). s.live) c.self.view_is

pub returns-in_err-make_segment-clause-aside : goal.returns-in_err-make_segment-clause-aside
returns-in_err-make_segment-clause-aside c = ap (λ (s : FileState). s.aside) c.self.view_is

pub returns-in_err-make_segment-clause-readers : goal.returns-in_err-make_segment-clause-readers
returns-in_err-make_segment-clause-readers c = ap (λ (s : FileState). s.readers) c.self.view_is

pub returns-then-not-branch-clause-live : goal.returns-then-not-branch-clause-live
returns-then-not-branch-clause-live c = ap (λ (s : FileState). s.live) c.self.view_is

pub returns-then-not-branch-clause-aside : goal.returns-then-not-branch-clause-aside
returns-then-not-branch-clause-aside c = ap (λ (s : FileState). s.aside) c.self.view_is

pub returns-then-not-branch-clause-readers : goal.returns-then-not-branch-clause-readers
returns-then-not-branch-clause-readers c = ap (λ (s : FileState). s.readers) c.self.view_is

pub returns-clause-live : goal.returns-clause-live
returns-clause-live c = ap (λ (s : FileState). s.live) c.self.view_is

pub returns-clause-aside : goal.returns-clause-aside
returns-clause-aside c = ap (λ (s : FileState). s.aside) c.self.view_is

pub returns-clause-readers : goal.returns-clause-readers
returns-clause-readers c = ap (λ (s : FileState). s.readers) c.self.view_is
