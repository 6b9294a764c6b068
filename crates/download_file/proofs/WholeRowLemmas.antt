-- Exactly when eight segments are made.
use Rattle.std.proofs.Common.{◌≡◌, ◌↔◌, Bool, true, false, Result, Ok, Err, ℕ, ◌+◌, ◌<◌, List, length, refl, sym, ap, subst, ◌∙◌}
use Rattle.std.specs.Prelude.{IfOk, IsSome, IsTrue, Some, slice_get}
use Rattle.std.specs.declared.alloc.AllocError.{AllocError}
use Rattle.std.proofs.lemmas.Bool.{true≢false}
use Rattle.std.proofs.lemmas.List.Elements.{All-contains}
use Rattle.std.proofs.lemmas.Option.{slice_get_within}
use Rattle.lemmas.proofs.Options.{one_there}
use Rattle.lemmas.proofs.Members.{contains_at}
use Rattle.request_record.specs.declared.requests.Request.{Request}
use Rattle.share_layout.specs.Geometry.{Geometry}
use Rattle.proved_parts.specs.Decoding.{DecodesBlocks}
use Rattle.download_supply.specs.Taking.{IsProved}
use Rattle.download_segments.specs.Decoding.{blocks_in}
use Rattle.download_segments.specs.Handout.{next_segment}
use Rattle.download_segments.specs.State.{HandoutState, ProvesSegment}
use Rattle.download_segments.proofs.DecodingLemmas.{unique}
use Rattle.download_segments.proofs.HandoutLemmas.{valid_of}
use Rattle.download_segments.proofs.RowLemmas.{row_there}
use Rattle.download_segments.specs.GroupMaking.{DecodesRow, MakesRow, RefutesRow, nth, nth_block}
use Rattle.download_segments.specs.GroupState.{GroupState, IsLast}
use Rattle.download_file.specs.State.{FileState, IsReader, ReaderState, numbers_of}
use Rattle.download_file.specs.Answers.{block_of, blocks_of}
use Rattle.download_file.specs.Making.{CanMakeRow, IsWholeRow}
use Rattle.download_file.specs.Right.{IsGroup}
use Rattle.download_file.specs.Rows.{AreRowsProved, HasRow, IsRow}
use Rattle.download_file.proofs.ListLemmas.{at_contained}
use Rattle.download_file.proofs.MakeLemmas.{live_numbers, nth_own}
use Rattle.download_file.proofs.RowFileLemmas.{HasRowBlocks, its_size, row_enough, row_ready}
use Rattle.download_file.proofs.SegmentLemmas.{HasLast}

-- the row is of the next segments
pub whole_row : (entries : List Request) (f : FileState) (number : ℕ) → next_segment f.handout ≡ Some number → CanMakeRow entries f → IsWholeRow entries f number
whole_row entries f number next can = subst (IsWholeRow entries f) (one_there (next_segment f.handout) can.0 number can.1 next) can.2

pub has_it : (entries : List Request) (f : FileState) (number : ℕ) → IsWholeRow entries f number → HasRow f.handout f.readers f.live number
has_it entries f number w = record {
  wanted = w.wanted;
  all = λ i low. record {
    enough = w.enough;
    known = subst IsSome (sym (w.proved i low).known) refl;
    ready = λ position r among at. (w.blocks i position r low among at).ready;
  };
}

module _ (entries : List Request) (f : FileState) (number size : ℕ) (k : HasRowBlocks entries f number size) (rows : List (List ℕ)) (joins : IsRow entries f.readers number f.live rows) where
  -- the block of a reader in its row
  own_block : (i position reader : ℕ) (r : ReaderState) → i < 8 → slice_get f.live position ≡ Some reader → IsReader f reader r
      → nth_block (nth rows i) size position ≡ block_of entries r.supply (number + i)
  own_block i position reader r low at there =
      ap (λ (l : List ℕ). nth_block l size position) (joins i low)
      ∙ nth_own entries f (number + i) size k.is k.read (row_there f.handout number i k.is.handout k.row.wanted low) (its_size entries f number size k i low)
      (row_ready entries f number size k i low) position reader r at there

  pub to_proved : IsWholeRow entries f number → AreRowsProved f.readers f.live number rows size (length f.live)
  to_proved w i low position reader r below at there =
      subst (IsProved r.supply (number + i)) (sym (own_block i position reader r low at there)) (w.blocks i reader r low (contains_at f.live position reader at) there).proved

  -- the segments that the last group decodes
  module _ (groups : List GroupState) (begun : HasLast f number groups) (group : GroupState) (last : IsLast groups group) (segments : List (List ℕ))
      (decodes : DecodesRow group.decoding number rows segments) where
    own : IsGroup f.handout f.readers group
    own = All-contains (IsGroup f.handout f.readers) groups group begun.groups_are (contains_at groups _ group last)

    numbers : group.decoding.numbers ≡ numbers_of f.readers f.live
    numbers = own.numbers ∙ ap (numbers_of f.readers) (begun.last group last)

    row_decodes : (i : ℕ) → i < 8 → DecodesBlocks f.handout.geometry (numbers_of f.readers f.live)
        (blocks_in f.handout.geometry (number + i) (blocks_of entries f.readers (number + i) f.live)) (number + i) (nth segments i)
    row_decodes i low =
        subst (λ (ns : List ℕ). DecodesBlocks f.handout.geometry ns (blocks_in f.handout.geometry (number + i) (blocks_of entries f.readers (number + i) f.live)) (number + i) (nth segments i)) numbers
        (subst (λ (l : List ℕ). DecodesBlocks f.handout.geometry group.decoding.numbers (blocks_in f.handout.geometry (number + i) l) (number + i) (nth segments i)) (joins i low)
        (subst (λ (g : Geometry). DecodesBlocks g group.decoding.numbers (blocks_in g (number + i) (nth rows i)) (number + i) (nth segments i)) own.geometry (decodes i low)))

    pub same_segment : IsWholeRow entries f number → (i : ℕ) → i < 8 → ProvesSegment f.handout (number + i) (nth segments i)
    same_segment w i low =
        let g = f.handout.geometry in
        let blocks = blocks_in g (number + i) (blocks_of entries f.readers (number + i) f.live) in
        let same : nth w.segments i ≡ nth segments i =
        unique g (numbers_of f.readers f.live) blocks (number + i) (nth w.segments i) (nth segments i) (valid_of f.handout k.is.handout)
        (live_numbers f k.is (row_enough entries f number size k)) (w.decodes i low) (row_decodes i low) in
        subst (ProvesSegment f.handout (number + i)) same (w.proved i low)

  pub made_whole : (groups groups' : List GroupState) (h' : HandoutState) → HasLast f number groups → AreRowsProved f.readers f.live number rows size (length f.live)
      → MakesRow f.handout groups number rows h' groups' → CanMakeRow entries f
  made_whole groups groups' h' begun right made = (
    number,
    k.next,
    record {
      wanted = k.row.wanted;
      enough = row_enough entries f number size k;
      blocks = λ i reader r low live there.
          let at = at_contained f.live reader live in
          record {
            ready = row_ready entries f number size k i low reader r live there;
            proved = subst (IsProved r.supply (number + i)) (own_block i at.0 reader r low at.1 there)
                (right i low at.0 reader r (slice_get_within f.live at.0 reader at.1) at.1 there);
          };
      segments = made.segments;
      decodes = row_decodes groups begun made.group made.last made.segments made.decodes;
      proved = made.proved;
    },
  )

  pub exact_row : (r : Result Bool AllocError) (groups groups' : List GroupState) (h' : HandoutState) → HasLast f number groups
      → AreRowsProved f.readers f.live number rows size (length f.live)
      → (r ≡ Ok true → MakesRow f.handout groups number rows h' groups') → (r ≡ Ok false → RefutesRow f.handout groups number rows)
      → IfOk r (λ (made : Bool). IsTrue made ↔ CanMakeRow entries f)
  exact_row (Ok true) groups groups' h' begun right made refuted = (λ _. made_whole groups groups' h' begun right (made refl), λ _. refl)
  exact_row (Ok false) groups groups' h' begun right made refuted =
      let no = refuted refl in (
        λ e. absurd (true≢false (sym e)),
        λ can. absurd (no.refuted (same_segment groups begun no.group no.last no.segments no.decodes (whole_row entries f number k.next can))),
      )
  exact_row (Err x) groups groups' h' begun right made refuted = tt
