use Rattle.std.proofs.Common.{refl, ◌≡◌, ◌↔◌, ◌∙◌, false, None, ◌+◌, ◌*◌, ◌<◌, ℕ, All, List, Some, Vec, Global, ap, arith, length, map, subst, sym}
use Rattle.std.specs.Prelude.{IfOk, IsTrue}
use Rattle.std.proofs.lemmas.Bool.{true≢false}
use Rattle.std.proofs.lemmas.List.Elements.{All-contains}
use Rattle.lemmas.proofs.Members.{contains_at}
use Rattle.request_record.specs.declared.requests.Request.{Request}
use Rattle.share_layout.specs.Geometry.{Geometry}
use Rattle.share_layout.specs.Pieces.{block_length}
use Rattle.download_segments.specs.Decoding.{AreShareNumbers}
use Rattle.download_segments.specs.Handout.{next_segment}
use Rattle.download_segments.specs.GroupMaking.{nth}
use Rattle.download_segments.specs.GroupState.{GroupState}
use Rattle.download_segments.proofs.GroupRowLemmas.{from_nth}
use Rattle.download_file.specs.State.{FileState, ReaderState, numbers_of}
use Rattle.download_file.specs.declared.file.PartialFile.TheInside.{Inside}
use Rattle.download_file.specs.Answers.{IsRead, blocks_of}
use Rattle.download_file.specs.Asked.{AsksNoMore}
use Rattle.download_file.specs.Changes.{IsSameFile, StaysAskedUp}
use Rattle.download_file.specs.Making.{CanMakeRow}
use Rattle.download_file.specs.Right.{IsFile, IsGroup}
use Rattle.download_file.specs.Rows.{AreRowsProved, HasRow, HaveRow, IsRow}
use Rattle.download_file.specs.Steps.{AreReady, BeginsGroup}
use Rattle.download_file.proofs.Fields.{seen}
use Rattle.download_file.proofs.GrowLemmas.{same_itself}
use Rattle.download_file.proofs.MakeLemmas.{live_numbers}
use Rattle.download_file.proofs.RowFileLemmas.{HasEndedRow, HasRowBlocks, has_ended_row, row_blocks, row_enough, row_long, row_needed, row_ready}
use Rattle.download_file.proofs.SegmentLemmas.{HasLast, has_last}
use Rattle.download_file.proofs.WholeRowLemmas.{exact_row, has_it, to_proved, whole_row}
use Rattle.download_file.proofs.file.PartialFile.make_row.Goals as goal

facts : (x : Inside) (entries : List Request) (now : FileState) (number size : ℕ) (readers : List ReaderState) (live : List ℕ) → seen x ≡ now
    → IsFile (seen x) × (x.plan.geometry ≡ x.handout.geometry) → IsRead entries now → Some number ≡ next_segment x.handout
    → readers ≡ x.readers.items → live ≡ x.live.items → HasRow x.handout readers live number → size ≡ block_length x.plan.geometry number
    → HasRowBlocks entries (seen x) number size
facts x entries now number size readers live view_is is reads next readers_are live_are row long = record {
  is = is.0;
  read = subst (IsRead entries) (sym view_is) reads;
  next = sym next;
  row = subst (λ (l : List ℕ). HasRow x.handout x.readers.items l number) live_are (subst (λ (rs : List ReaderState). HasRow x.handout rs live number) readers_are row);
  long = long ∙ ap (λ (g : Geometry). block_length g number) is.1;
}

pub join_row-requires-clause-held : goal.join_row-requires-clause-held
join_row-requires-clause-held c =
    let entries = c.args.requests.now.entries in
    let f : FileState = seen c.self.inside in
    let number : ℕ = c.in-Some.number in
    let size : ℕ = c.block_length-size.result in
    let k : HasRowBlocks entries f number size = facts c.self.inside c.args.requests.now.entries c.args.self.now c.in-Some.number c.block_length-size.result c.deref.result.now c.deref-2.result.now
    c.self.view_is c.self.invariant c.requires.reads c.in-Some.ensures.value c.deref.ensures.value c.deref-2.ensures.value
    (c.has_row.ensures.yes c.if-not-has_row.false) c.block_length-size.ensures.value in
    subst (λ (rs : List ReaderState). HaveRow rs number size c.deref-4.result.now) (sym c.deref-3.ensures.value)
    (subst (λ (l : List ℕ). HaveRow f.readers number size l) (sym c.deref-4.ensures.value) (row_blocks entries f number size k))

pub are_right-requires-clause-there : goal.are_right-requires-clause-there
are_right-requires-clause-there c =
    let f : FileState = seen c.self.inside in
    subst (λ (rs : List ReaderState). All (λ position. position < length rs) c.deref-6.result.now) (sym c.deref-5.ensures.value)
    (subst (λ (l : List ℕ). All (λ position. position < length f.readers) l) (sym c.deref-6.ensures.value) c.self.invariant.0.live.there)

pub are_right-requires-clause-ready : goal.are_right-requires-clause-ready
are_right-requires-clause-ready c = λ i low.
    let entries = c.args.requests.now.entries in
    let f : FileState = seen c.self.inside in
    let number : ℕ = c.in-Some.number in
    let size : ℕ = c.block_length-size.result in
    let k : HasRowBlocks entries f number size = facts c.self.inside c.args.requests.now.entries c.args.self.now c.in-Some.number c.block_length-size.result c.deref.result.now c.deref-2.result.now
    c.self.view_is c.self.invariant c.requires.reads c.in-Some.ensures.value c.deref.ensures.value c.deref-2.ensures.value
    (c.has_row.ensures.yes c.if-not-has_row.false) c.block_length-size.ensures.value in
    subst (λ (rs : List ReaderState). AreReady rs c.deref-6.result.now (number + i)) (sym c.deref-5.ensures.value)
    (subst (λ (l : List ℕ). AreReady f.readers l (number + i)) (sym c.deref-6.ensures.value) (row_ready entries f number size k i low))

pub are_right-requires-clause-long : goal.are_right-requires-clause-long
are_right-requires-clause-long c =
    let entries = c.args.requests.now.entries in
    let f : FileState = seen c.self.inside in
    let number : ℕ = c.in-Some.number in
    let size : ℕ = c.block_length-size.result in
    let k : HasRowBlocks entries f number size = facts c.self.inside c.args.requests.now.entries c.args.self.now c.in-Some.number c.block_length-size.result c.deref.result.now c.deref-2.result.now
    c.self.view_is c.self.invariant c.requires.reads c.in-Some.ensures.value c.deref.ensures.value c.deref-2.ensures.value
    (c.has_row.ensures.yes c.if-not-has_row.false) c.block_length-size.ensures.value in
    let rows : List (List ℕ) = map (λ r. r.items) c.in_ok-rows.rows.items in
    let joins : IsRow entries f.readers number f.live rows =
    λ i low. c.in_ok-rows.ensures.rows i low ∙ (λ j. blocks_of entries (c.deref-3.ensures.value j) (number + i) (c.deref-4.ensures.value j)) in
    let eight = c.in_ok-rows.ensures.eight in
    subst (λ (rs : List (Vec ℕ Global)). All (λ r. length r.items ≡ length c.deref-6.result.now * size) rs) (sym c.deref-7.ensures.value)
    (from_nth (λ r. r.items) (λ l. length l ≡ length c.deref-6.result.now * size) c.in_ok-rows.rows.items
    (λ i low. row_long entries f number size k rows joins i (omega (arith, low, eight)) ∙ ap (λ (l : List ℕ). length l * size) (sym c.deref-6.ensures.value)))

pub begin_group-requires-clause-there : goal.begin_group-requires-clause-there
begin_group-requires-clause-there c =
    let f : FileState = seen c.self.inside in
    subst (λ (rs : List ReaderState). All (λ position. position < length rs) c.deref-9.result.now) (sym c.deref-8.ensures.value)
    (subst (λ (l : List ℕ). All (λ position. position < length f.readers) l) (sym c.deref-9.ensures.value) c.self.invariant.0.live.there)

pub begin_group-requires-clause-shares : goal.begin_group-requires-clause-shares
begin_group-requires-clause-shares c =
    let entries = c.args.requests.now.entries in
    let f : FileState = seen c.self.inside in
    let number : ℕ = c.in-Some.number in
    let size : ℕ = c.block_length-size.result in
    let k : HasRowBlocks entries f number size = facts c.self.inside c.args.requests.now.entries c.args.self.now c.in-Some.number c.block_length-size.result c.deref.result.now c.deref-2.result.now
    c.self.view_is c.self.invariant c.requires.reads c.in-Some.ensures.value c.deref.ensures.value c.deref-2.ensures.value
    (c.has_row.ensures.yes c.if-not-has_row.false) c.block_length-size.ensures.value in
    subst (λ (g : Geometry). AreShareNumbers g (numbers_of c.deref-8.result.now c.deref-9.result.now)) (sym c.self.invariant.1)
    (subst (λ (rs : List ReaderState). AreShareNumbers f.handout.geometry (numbers_of rs c.deref-9.result.now)) (sym c.deref-8.ensures.value)
    (subst (λ (l : List ℕ). AreShareNumbers f.handout.geometry (numbers_of f.readers l)) (sym c.deref-9.ensures.value) (live_numbers f k.is (row_enough entries f number size k))))

pub returns-in_err-begin_group-clause-same : goal.returns-in_err-begin_group-clause-same
returns-in_err-begin_group-clause-same c =
    let f : FileState = seen c.self.inside in
    let unchanged : c.begin_group.new.groups.items ≡ f.groups = c.in_err-begin_group.ensures.unchanged in
    subst (λ (s : FileState). IsSameFile s (record f { groups = c.begin_group.new.groups.items })) c.self.view_is
    (subst (λ (gs : List GroupState). IsSameFile f (record f { groups = gs })) (sym unchanged) (same_itself f))

pub make_segments-requires-clause-some : goal.make_segments-requires-clause-some
make_segments-requires-clause-some c =
    let entries = c.args.requests.now.entries in
    let f : FileState = seen c.self.inside in
    let number : ℕ = c.in-Some.number in
    let size : ℕ = c.block_length-size.result in
    let k : HasRowBlocks entries f number size = facts c.self.inside c.args.requests.now.entries c.args.self.now c.in-Some.number c.block_length-size.result c.deref.result.now c.deref-2.result.now
    c.self.view_is c.self.invariant c.requires.reads c.in-Some.ensures.value c.deref.ensures.value c.deref-2.ensures.value
    (c.has_row.ensures.yes c.if-not-has_row.false) c.block_length-size.ensures.value in
    let begins : BeginsGroup f.groups f.handout.geometry f.readers f.live number c.begin_group.new.groups.items =
    subst (λ (g : Geometry). BeginsGroup f.groups g f.readers f.live number c.begin_group.new.groups.items) c.self.invariant.1
    (subst (λ (l : List ℕ). BeginsGroup f.groups c.self.inside.plan.geometry f.readers l number c.begin_group.new.groups.items) c.deref-9.ensures.value
    (subst (λ (rs : List ReaderState). BeginsGroup f.groups c.self.inside.plan.geometry rs c.deref-9.result.now number c.begin_group.new.groups.items) c.deref-8.ensures.value
    c.in_ok-begin_group.ensures.begins)) in
    let last : HasLast f number c.begin_group.new.groups.items = has_last f number c.begin_group.new.groups.items k.is k.next (row_enough entries f number size k) begins in
    last.some

pub make_segments-requires-clause-geometry : goal.make_segments-requires-clause-geometry
make_segments-requires-clause-geometry c = λ group at.
    let entries = c.args.requests.now.entries in
    let f : FileState = seen c.self.inside in
    let number : ℕ = c.in-Some.number in
    let size : ℕ = c.block_length-size.result in
    let k : HasRowBlocks entries f number size = facts c.self.inside c.args.requests.now.entries c.args.self.now c.in-Some.number c.block_length-size.result c.deref.result.now c.deref-2.result.now
    c.self.view_is c.self.invariant c.requires.reads c.in-Some.ensures.value c.deref.ensures.value c.deref-2.ensures.value
    (c.has_row.ensures.yes c.if-not-has_row.false) c.block_length-size.ensures.value in
    let begins : BeginsGroup f.groups f.handout.geometry f.readers f.live number c.begin_group.new.groups.items =
    subst (λ (g : Geometry). BeginsGroup f.groups g f.readers f.live number c.begin_group.new.groups.items) c.self.invariant.1
    (subst (λ (l : List ℕ). BeginsGroup f.groups c.self.inside.plan.geometry f.readers l number c.begin_group.new.groups.items) c.deref-9.ensures.value
    (subst (λ (rs : List ReaderState). BeginsGroup f.groups c.self.inside.plan.geometry rs c.deref-9.result.now number c.begin_group.new.groups.items) c.deref-8.ensures.value
    c.in_ok-begin_group.ensures.begins)) in
    let last : HasLast f number c.begin_group.new.groups.items = has_last f number c.begin_group.new.groups.items k.is k.next (row_enough entries f number size k) begins in
    (All-contains (IsGroup f.handout f.readers) c.begin_group.new.groups.items group last.groups_are (contains_at c.begin_group.new.groups.items _ group at)).geometry

pub make_segments-requires-clause-long : goal.make_segments-requires-clause-long
make_segments-requires-clause-long c = λ i low.
    let entries = c.args.requests.now.entries in
    let f : FileState = seen c.self.inside in
    let number : ℕ = c.in-Some.number in
    let size : ℕ = c.block_length-size.result in
    let k : HasRowBlocks entries f number size = facts c.self.inside c.args.requests.now.entries c.args.self.now c.in-Some.number c.block_length-size.result c.deref.result.now c.deref-2.result.now
    c.self.view_is c.self.invariant c.requires.reads c.in-Some.ensures.value c.deref.ensures.value c.deref-2.ensures.value
    (c.has_row.ensures.yes c.if-not-has_row.false) c.block_length-size.ensures.value in
    let rows : List (List ℕ) = map (λ r. r.items) c.in_ok-rows.rows.items in
    let joins : IsRow entries f.readers number f.live rows =
    λ i low. c.in_ok-rows.ensures.rows i low ∙ (λ j. blocks_of entries (c.deref-3.ensures.value j) (number + i) (c.deref-4.ensures.value j)) in
    ap (λ (l : List (Vec ℕ Global)). length (nth (map (λ r. r.items) l) i)) c.deref-10.ensures.value ∙ row_needed entries f number size k rows joins i low

-- ---- the file in the end

abbrev ended : goal.After-drop-rows-2 → FileState
ended c = record (seen c.self.inside) { handout = c.make_segments.new.handout; groups = c.make_segments.new.groups.items }

at_end : (c : goal.After-drop-rows-2) → HasEndedRow c.args.requests.now.entries c.make_segments.result c.args.self.now (ended c)
at_end c =
    let entries = c.args.requests.now.entries in
    let f : FileState = seen c.self.inside in
    let number : ℕ = c.in-Some.number in
    let size : ℕ = c.block_length-size.result in
    let k : HasRowBlocks entries f number size = facts c.self.inside c.args.requests.now.entries c.args.self.now c.in-Some.number c.block_length-size.result c.deref.result.now c.deref-2.result.now
    c.self.view_is c.self.invariant c.requires.reads c.in-Some.ensures.value c.deref.ensures.value c.deref-2.ensures.value
    (c.has_row.ensures.yes c.if-not-has_row.false) c.block_length-size.ensures.value in
    let rows : List (List ℕ) = map (λ r. r.items) c.in_ok-rows.rows.items in
    let joins : IsRow entries f.readers number f.live rows =
    λ i low. c.in_ok-rows.ensures.rows i low ∙ (λ j. blocks_of entries (c.deref-3.ensures.value j) (number + i) (c.deref-4.ensures.value j)) in
    let begins : BeginsGroup f.groups f.handout.geometry f.readers f.live number c.begin_group.new.groups.items =
    subst (λ (g : Geometry). BeginsGroup f.groups g f.readers f.live number c.begin_group.new.groups.items) c.self.invariant.1
    (subst (λ (l : List ℕ). BeginsGroup f.groups c.self.inside.plan.geometry f.readers l number c.begin_group.new.groups.items) c.deref-9.ensures.value
    (subst (λ (rs : List ReaderState). BeginsGroup f.groups c.self.inside.plan.geometry rs c.deref-9.result.now number c.begin_group.new.groups.items) c.deref-8.ensures.value
    c.in_ok-begin_group.ensures.begins)) in
    let last : HasLast f number c.begin_group.new.groups.items = has_last f number c.begin_group.new.groups.items k.is k.next (row_enough entries f number size k) begins in
    let joined : IsRow entries f.readers number f.live (map (λ r. r.items) c.deref-10.result.now) =
    subst (λ (l : List (Vec ℕ Global)). IsRow entries f.readers number f.live (map (λ r. r.items) l)) (sym c.deref-10.ensures.value) joins in
    let right : AreRowsProved f.readers f.live number (map (λ r. r.items) c.deref-10.result.now) size (length f.live) =
    subst (λ (l : List (Vec ℕ Global)). AreRowsProved f.readers f.live number (map (λ r. r.items) l) size (length f.live)) (c.deref-7.ensures.value ∙ sym c.deref-10.ensures.value)
    (subst (λ (l : List ℕ). AreRowsProved f.readers l number (map (λ r. r.items) c.deref-7.result.now) size (length l)) c.deref-6.ensures.value
    (subst (λ (rs : List ReaderState). AreRowsProved rs c.deref-6.result.now number (map (λ r. r.items) c.deref-7.result.now) size (length c.deref-6.result.now)) c.deref-5.ensures.value
    (c.are_right.ensures.0 c.if-not-are_right.false))) in
    subst (λ (s : FileState). HasEndedRow entries c.make_segments.result s (ended c)) c.self.view_is
    (has_ended_row entries f number size c.begin_group.new.groups.items c.make_segments.new.groups.items (map (λ r. r.items) c.deref-10.result.now) c.make_segments.new.handout
    c.make_segments.result k last joined right c.make_segments.ensures.made c.make_segments.ensures.same)

pub invariant_of-self-2 : goal.invariant_of-self-2
invariant_of-self-2 c =
    let e = at_end c in
    (e.right, c.self.invariant.1 ∙ ap (λ (s : FileState). s.handout.geometry) c.self.view_is ∙ sym e.same.geometry)

pub returns-clause-made : goal.returns-clause-made
returns-clause-made c = (at_end c).made

pub returns-clause-same_handout : goal.returns-clause-same_handout
returns-clause-same_handout c = (at_end c).same_handout

pub returns-clause-asked_up : goal.returns-clause-asked_up
returns-clause-asked_up c = (at_end c).asked_up

pub returns-clause-reads : goal.returns-clause-reads
returns-clause-reads c = (at_end c).reads

pub returns-clause-same : goal.returns-clause-same
returns-clause-same c = (at_end c).same

pub returns-clause-right : goal.returns-clause-right
returns-clause-right c = (at_end c).right

-- ---- exactly when they are made

pub returns-in_default-clause-exact : goal.returns-in_default-clause-exact
returns-in_default-clause-exact c =
    let f : FileState = seen c.self.inside in
    let none : next_segment f.handout ≡ None = sym c.next.ensures.value ∙ c.in_default.is in
    subst (λ (s : FileState). IsTrue false ↔ CanMakeRow c.args.requests.now.entries s) c.self.view_is
    (λ e. absurd (true≢false (sym e)), λ can. absurd (let e : Some can.0 ≡ None = sym can.1 ∙ none in cc))

pub returns-then-not-has_row-clause-exact : goal.returns-then-not-has_row-clause-exact
returns-then-not-has_row-clause-exact c =
    let entries = c.args.requests.now.entries in
    let f : FileState = seen c.self.inside in
    let number : ℕ = c.in-Some.number in
    let next : next_segment f.handout ≡ Some number = sym c.in-Some.ensures.value in
    let no : ¬ HasRow f.handout f.readers f.live number =
    subst (λ (l : List ℕ). ¬ HasRow f.handout f.readers l number) c.deref-2.ensures.value
    (subst (λ (rs : List ReaderState). ¬ HasRow f.handout rs c.deref-2.result.now number) c.deref.ensures.value (c.has_row.ensures.no c.if-not-has_row.true)) in
    subst (λ (s : FileState). IsTrue false ↔ CanMakeRow entries s) c.self.view_is
    (λ e. absurd (true≢false (sym e)), λ can. absurd (no (has_it entries f number (whole_row entries f number next can))))

pub returns-then-not-are_right-clause-exact : goal.returns-then-not-are_right-clause-exact
returns-then-not-are_right-clause-exact c =
    let entries = c.args.requests.now.entries in
    let f : FileState = seen c.self.inside in
    let number : ℕ = c.in-Some.number in
    let size : ℕ = c.block_length-size.result in
    let k : HasRowBlocks entries f number size = facts c.self.inside c.args.requests.now.entries c.args.self.now c.in-Some.number c.block_length-size.result c.deref.result.now c.deref-2.result.now
    c.self.view_is c.self.invariant c.requires.reads c.in-Some.ensures.value c.deref.ensures.value c.deref-2.ensures.value
    (c.has_row.ensures.yes c.if-not-has_row.false) c.block_length-size.ensures.value in
    let rows : List (List ℕ) = map (λ r. r.items) c.in_ok-rows.rows.items in
    let joins : IsRow entries f.readers number f.live rows =
    λ i low. c.in_ok-rows.ensures.rows i low ∙ (λ j. blocks_of entries (c.deref-3.ensures.value j) (number + i) (c.deref-4.ensures.value j)) in
    let back : AreRowsProved f.readers f.live number rows size (length f.live) → IsTrue c.are_right.result =
    λ all. c.are_right.ensures.1
    (subst (λ (l : List (Vec ℕ Global)). AreRowsProved c.deref-5.result.now c.deref-6.result.now number (map (λ r. r.items) l) size (length c.deref-6.result.now)) (sym c.deref-7.ensures.value)
    (subst (λ (rs : List ReaderState). AreRowsProved rs c.deref-6.result.now number rows size (length c.deref-6.result.now)) (sym c.deref-5.ensures.value)
    (subst (λ (l : List ℕ). AreRowsProved f.readers l number rows size (length l)) (sym c.deref-6.ensures.value) all))) in
    subst (λ (s : FileState). IsTrue false ↔ CanMakeRow entries s) c.self.view_is (
      λ e. absurd (true≢false (sym e)),
      λ can. sym c.if-not-are_right.true ∙ back (to_proved entries f number size k rows joins (whole_row entries f number k.next can)),
    )

pub returns-clause-exact : goal.returns-clause-exact
returns-clause-exact c =
    let entries = c.args.requests.now.entries in
    let f : FileState = seen c.self.inside in
    let number : ℕ = c.in-Some.number in
    let size : ℕ = c.block_length-size.result in
    let k : HasRowBlocks entries f number size = facts c.self.inside c.args.requests.now.entries c.args.self.now c.in-Some.number c.block_length-size.result c.deref.result.now c.deref-2.result.now
    c.self.view_is c.self.invariant c.requires.reads c.in-Some.ensures.value c.deref.ensures.value c.deref-2.ensures.value
    (c.has_row.ensures.yes c.if-not-has_row.false) c.block_length-size.ensures.value in
    let rows : List (List ℕ) = map (λ r. r.items) c.in_ok-rows.rows.items in
    let joins : IsRow entries f.readers number f.live rows =
    λ i low. c.in_ok-rows.ensures.rows i low ∙ (λ j. blocks_of entries (c.deref-3.ensures.value j) (number + i) (c.deref-4.ensures.value j)) in
    let begins : BeginsGroup f.groups f.handout.geometry f.readers f.live number c.begin_group.new.groups.items =
    subst (λ (g : Geometry). BeginsGroup f.groups g f.readers f.live number c.begin_group.new.groups.items) c.self.invariant.1
    (subst (λ (l : List ℕ). BeginsGroup f.groups c.self.inside.plan.geometry f.readers l number c.begin_group.new.groups.items) c.deref-9.ensures.value
    (subst (λ (rs : List ReaderState). BeginsGroup f.groups c.self.inside.plan.geometry rs c.deref-9.result.now number c.begin_group.new.groups.items) c.deref-8.ensures.value
    c.in_ok-begin_group.ensures.begins)) in
    let last : HasLast f number c.begin_group.new.groups.items = has_last f number c.begin_group.new.groups.items k.is k.next (row_enough entries f number size k) begins in
    let joined : IsRow entries f.readers number f.live (map (λ r. r.items) c.deref-10.result.now) =
    subst (λ (l : List (Vec ℕ Global)). IsRow entries f.readers number f.live (map (λ r. r.items) l)) (sym c.deref-10.ensures.value) joins in
    let right : AreRowsProved f.readers f.live number (map (λ r. r.items) c.deref-10.result.now) size (length f.live) =
    subst (λ (l : List (Vec ℕ Global)). AreRowsProved f.readers f.live number (map (λ r. r.items) l) size (length f.live)) (c.deref-7.ensures.value ∙ sym c.deref-10.ensures.value)
    (subst (λ (l : List ℕ). AreRowsProved f.readers l number (map (λ r. r.items) c.deref-7.result.now) size (length l)) c.deref-6.ensures.value
    (subst (λ (rs : List ReaderState). AreRowsProved rs c.deref-6.result.now number (map (λ r. r.items) c.deref-7.result.now) size (length c.deref-6.result.now)) c.deref-5.ensures.value
    (c.are_right.ensures.0 c.if-not-are_right.false))) in
    subst (λ (s : FileState). IfOk c.make_segments.result (λ made. IsTrue made ↔ CanMakeRow entries s)) c.self.view_is
    (exact_row entries f number size k (map (λ r. r.items) c.deref-10.result.now) joined c.make_segments.result c.begin_group.new.groups.items c.make_segments.new.groups.items
    c.make_segments.new.handout last right c.make_segments.ensures.made c.make_segments.ensures.refuted)

-- ---- nothing is touched

pub returns-in_default-clause-same_handout : goal.returns-in_default-clause-same_handout
returns-in_default-clause-same_handout c = λ _. refl

pub returns-in_default-clause-asked_up : goal.returns-in_default-clause-asked_up
returns-in_default-clause-asked_up c = λ _ reader h. h

pub returns-in_default-clause-reads : goal.returns-in_default-clause-reads
returns-in_default-clause-reads c = c.requires.reads

pub returns-in_default-clause-live : goal.returns-in_default-clause-live
returns-in_default-clause-live c = refl

pub returns-in_default-clause-aside : goal.returns-in_default-clause-aside
returns-in_default-clause-aside c = refl

pub returns-in_default-clause-readers : goal.returns-in_default-clause-readers
returns-in_default-clause-readers c = refl

pub returns-in_default-clause-asked : goal.returns-in_default-clause-asked
returns-in_default-clause-asked c = λ reader offset len. ((λ h. h), (λ h. h))

pub returns-in_default-clause-same : goal.returns-in_default-clause-same
returns-in_default-clause-same c = same_itself c.args.self.now

pub returns-in_default-clause-right : goal.returns-in_default-clause-right
returns-in_default-clause-right c = subst IsFile c.self.view_is c.self.invariant.0

pub returns-then-not-has_row-clause-same_handout : goal.returns-then-not-has_row-clause-same_handout
returns-then-not-has_row-clause-same_handout c = λ _. refl

pub returns-then-not-has_row-clause-asked_up : goal.returns-then-not-has_row-clause-asked_up
returns-then-not-has_row-clause-asked_up c = λ _ reader h. h

pub returns-then-not-has_row-clause-reads : goal.returns-then-not-has_row-clause-reads
returns-then-not-has_row-clause-reads c = c.requires.reads

pub returns-then-not-has_row-clause-live : goal.returns-then-not-has_row-clause-live
returns-then-not-has_row-clause-live c = refl

pub returns-then-not-has_row-clause-aside : goal.returns-then-not-has_row-clause-aside
returns-then-not-has_row-clause-aside c = refl

pub returns-then-not-has_row-clause-readers : goal.returns-then-not-has_row-clause-readers
returns-then-not-has_row-clause-readers c = refl

pub returns-then-not-has_row-clause-asked : goal.returns-then-not-has_row-clause-asked
returns-then-not-has_row-clause-asked c = λ reader offset len. ((λ h. h), (λ h. h))

pub returns-then-not-has_row-clause-same : goal.returns-then-not-has_row-clause-same
returns-then-not-has_row-clause-same c = same_itself c.args.self.now

pub returns-then-not-has_row-clause-right : goal.returns-then-not-has_row-clause-right
returns-then-not-has_row-clause-right c = subst IsFile c.self.view_is c.self.invariant.0

pub returns-in_err-rows-clause-same_handout : goal.returns-in_err-rows-clause-same_handout
returns-in_err-rows-clause-same_handout c = λ _. refl

pub returns-in_err-rows-clause-asked_up : goal.returns-in_err-rows-clause-asked_up
returns-in_err-rows-clause-asked_up c = λ _ reader h. h

pub returns-in_err-rows-clause-reads : goal.returns-in_err-rows-clause-reads
returns-in_err-rows-clause-reads c = c.requires.reads

pub returns-in_err-rows-clause-live : goal.returns-in_err-rows-clause-live
returns-in_err-rows-clause-live c = refl

pub returns-in_err-rows-clause-aside : goal.returns-in_err-rows-clause-aside
returns-in_err-rows-clause-aside c = refl

pub returns-in_err-rows-clause-readers : goal.returns-in_err-rows-clause-readers
returns-in_err-rows-clause-readers c = refl

pub returns-in_err-rows-clause-asked : goal.returns-in_err-rows-clause-asked
returns-in_err-rows-clause-asked c = λ reader offset len. ((λ h. h), (λ h. h))

pub returns-in_err-rows-clause-same : goal.returns-in_err-rows-clause-same
returns-in_err-rows-clause-same c = same_itself c.args.self.now

pub returns-in_err-rows-clause-right : goal.returns-in_err-rows-clause-right
returns-in_err-rows-clause-right c = subst IsFile c.self.view_is c.self.invariant.0

pub returns-then-not-are_right-clause-same_handout : goal.returns-then-not-are_right-clause-same_handout
returns-then-not-are_right-clause-same_handout c = λ _. refl

pub returns-then-not-are_right-clause-asked_up : goal.returns-then-not-are_right-clause-asked_up
returns-then-not-are_right-clause-asked_up c = λ _ reader h. h

pub returns-then-not-are_right-clause-reads : goal.returns-then-not-are_right-clause-reads
returns-then-not-are_right-clause-reads c = c.requires.reads

pub returns-then-not-are_right-clause-live : goal.returns-then-not-are_right-clause-live
returns-then-not-are_right-clause-live c = refl

pub returns-then-not-are_right-clause-aside : goal.returns-then-not-are_right-clause-aside
returns-then-not-are_right-clause-aside c = refl

pub returns-then-not-are_right-clause-readers : goal.returns-then-not-are_right-clause-readers
returns-then-not-are_right-clause-readers c = refl

pub returns-then-not-are_right-clause-asked : goal.returns-then-not-are_right-clause-asked
returns-then-not-are_right-clause-asked c = λ reader offset len. ((λ h. h), (λ h. h))

pub returns-then-not-are_right-clause-same : goal.returns-then-not-are_right-clause-same
returns-then-not-are_right-clause-same c = same_itself c.args.self.now

pub returns-then-not-are_right-clause-right : goal.returns-then-not-are_right-clause-right
returns-then-not-are_right-clause-right c = subst IsFile c.self.view_is c.self.invariant.0

-- ---- no group is begun, and what the last end does not touch

pub returns-in_err-begin_group-clause-same_handout : goal.returns-in_err-begin_group-clause-same_handout
returns-in_err-begin_group-clause-same_handout c = λ _. ap (λ (s : FileState). s.handout) c.self.view_is

pub returns-in_err-begin_group-clause-asked_up : goal.returns-in_err-begin_group-clause-asked_up
returns-in_err-begin_group-clause-asked_up c = λ _ reader.
    let f : FileState = seen c.self.inside in
    let kept : record f { groups = c.begin_group.new.groups.items } ≡ c.args.self.now = ap (λ (gs : List GroupState). record f { groups = gs }) c.in_err-begin_group.ensures.unchanged ∙ c.self.view_is in
    subst (λ (s : FileState). StaysAskedUp c.args.self.now s reader) (sym kept) (λ h. h)

pub returns-in_err-begin_group-clause-reads : goal.returns-in_err-begin_group-clause-reads
returns-in_err-begin_group-clause-reads c =
    let f : FileState = seen c.self.inside in
    let kept : record f { groups = c.begin_group.new.groups.items } ≡ c.args.self.now = ap (λ (gs : List GroupState). record f { groups = gs }) c.in_err-begin_group.ensures.unchanged ∙ c.self.view_is in
    subst (IsRead c.args.requests.now.entries) (sym kept) c.requires.reads

pub returns-in_err-begin_group-clause-live : goal.returns-in_err-begin_group-clause-live
returns-in_err-begin_group-clause-live c = ap (λ (s : FileState). s.live) c.self.view_is

pub returns-in_err-begin_group-clause-aside : goal.returns-in_err-begin_group-clause-aside
returns-in_err-begin_group-clause-aside c = ap (λ (s : FileState). s.aside) c.self.view_is

pub returns-in_err-begin_group-clause-readers : goal.returns-in_err-begin_group-clause-readers
returns-in_err-begin_group-clause-readers c = ap (λ (s : FileState). s.readers) c.self.view_is

pub returns-in_err-begin_group-clause-asked : goal.returns-in_err-begin_group-clause-asked
returns-in_err-begin_group-clause-asked c =
    let f : FileState = seen c.self.inside in
    let kept : record f { groups = c.begin_group.new.groups.items } ≡ c.args.self.now = ap (λ (gs : List GroupState). record f { groups = gs }) c.in_err-begin_group.ensures.unchanged ∙ c.self.view_is in
    subst (AsksNoMore c.args.self.now) (sym kept) (λ reader offset len. ((λ h. h), (λ h. h)))

pub returns-in_err-begin_group-clause-right : goal.returns-in_err-begin_group-clause-right
returns-in_err-begin_group-clause-right c =
    let f : FileState = seen c.self.inside in
    let kept : record f { groups = c.begin_group.new.groups.items } ≡ c.args.self.now = ap (λ (gs : List GroupState). record f { groups = gs }) c.in_err-begin_group.ensures.unchanged ∙ c.self.view_is in
    subst IsFile (sym kept) (subst IsFile c.self.view_is c.self.invariant.0)

pub returns-clause-live : goal.returns-clause-live
returns-clause-live c = ap (λ (s : FileState). s.live) c.self.view_is

pub returns-clause-aside : goal.returns-clause-aside
returns-clause-aside c = ap (λ (s : FileState). s.aside) c.self.view_is

pub returns-clause-readers : goal.returns-clause-readers
returns-clause-readers c = ap (λ (s : FileState). s.readers) c.self.view_is
