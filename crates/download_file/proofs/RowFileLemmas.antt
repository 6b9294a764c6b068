-- A file with eight segments more.
use Rattle.std.proofs.Common.{◌≡◌, ◌≢◌, ◌⊎◌, inl, inr, Bool, true, false, Result, Ok, Err, ℕ, zero, suc, ◌+◌, ◌-◌, ◌*◌, ◌<◌, ◌≤◌, List, length, Some, refl, sym, ap, subst, ◌∙◌, arith, length-set}
use Rattle.std.specs.Prelude.{slice_get, slice_set}
use Rattle.std.specs.Int.{div_ceil}
use Rattle.std.specs.declared.alloc.AllocError.{AllocError}
use Rattle.std.proofs.lemmas.List.Elements.{All-contains, All-set, All-weaker}
use Rattle.lemmas.proofs.Options.{one_there}
use Rattle.lemmas.proofs.Positions.{get_set}
use Rattle.lemmas.proofs.Members.{contains_at}
use Rattle.request_record.specs.declared.requests.Request.{Request}
use Rattle.share_layout.specs.Pieces.{block_length}
use Rattle.share_layout.proofs.CutLemmas.{cut_lengths}
use Rattle.download_segments.specs.Handout.{IsRowWanted, first_handed_out, next_segment}
use Rattle.download_segments.specs.State.{HandoutState, IsHandout}
use Rattle.download_segments.proofs.HandoutLemmas.{valid_of}
use Rattle.download_segments.proofs.RowLemmas.{IsRowState, row_length, row_state, row_there, still_proved}
use Rattle.download_segments.specs.GroupMaking.{MakesRow, MakesSegment, nth}
use Rattle.download_segments.specs.GroupState.{GroupState, IsLast, with_end}
use Rattle.download_file.specs.State.{FileState}
use Rattle.download_file.specs.Answers.{HaveRightBlocks, IsRead}
use Rattle.download_file.specs.Changes.{IsSameFile, StaysAskedUp}
use Rattle.download_file.specs.Making.{MakesSegments}
use Rattle.download_file.specs.Right.{IsFile, IsGroup}
use Rattle.download_file.specs.Rows.{AreRowsProved, HasRow, HaveRow, IsRow}
use Rattle.download_file.specs.Steps.{AreReady}
use Rattle.download_file.proofs.ListLemmas.{set_again, set_same}
use Rattle.download_file.proofs.GrowLemmas.{grow_same, group_stays, same_two}
use Rattle.download_file.proofs.MakeLemmas.{all_long, live_blocks, right_blocks}
use Rattle.download_file.proofs.SegmentLemmas.{HasLast, has_groups, has_made, last_end, raise_last}

-- ---- the blocks of the row

-- all blocks of the row have one length
row_block : (h : HandoutState) (number i : ℕ) → IsHandout h → IsRowWanted h number → i < 8 → block_length h.geometry (number + i) ≡ block_length h.geometry number
row_block h number i k wanted low = at i low ∙ sym (at 0 (omega arith)) ∙ ap (block_length h.geometry) (omega arith)
  where
    at : (j : ℕ) → j < 8 → block_length h.geometry (number + j) ≡ div_ceil h.geometry.segment_size h.geometry.needed
    at j below = (cut_lengths h.geometry (number + j) (valid_of h k) (row_there h number j k wanted below)).shared
        ∙ ap (λ (n : ℕ). div_ceil n h.geometry.needed) (row_length h number j k wanted below)

-- a file of which eight segments from this one on can be made
pub record HasRowBlocks (entries : List Request) (f : FileState) (number size : ℕ) : Type 0 where
  pub is : IsFile f
  pub read : IsRead entries f
  pub next : next_segment f.handout ≡ Some number
  pub row : HasRow f.handout f.readers f.live number
  pub long : size ≡ block_length f.handout.geometry number

module _ (entries : List Request) (f : FileState) (number size : ℕ) (k : HasRowBlocks entries f number size) where
  pub its_size : (i : ℕ) → i < 8 → size ≡ block_length f.handout.geometry (number + i)
  its_size i low = k.long ∙ sym (row_block f.handout number i k.is.handout k.row.wanted low)

  pub row_ready : (i : ℕ) → i < 8 → AreReady f.readers f.live (number + i)
  row_ready i low = (k.row.all i low).ready

  pub row_enough : length f.live ≡ f.handout.geometry.needed
  row_enough = (k.row.all 0 (omega arith)).enough

  pub row_blocks : HaveRow f.readers number size f.live
  row_blocks i low = live_blocks entries f (number + i) size k.is k.read (row_there f.handout number i k.is.handout k.row.wanted low) (its_size i low) (row_ready i low)

  pub row_long : (rows : List (List ℕ)) → IsRow entries f.readers number f.live rows → (i : ℕ) → i < 8 → length (nth rows i) ≡ length f.live * size
  row_long rows joins i low = ap length (joins i low)
      ∙ all_long entries f (number + i) size k.is k.read (row_there f.handout number i k.is.handout k.row.wanted low) (its_size i low) (row_ready i low)

  pub row_needed : (rows : List (List ℕ)) → IsRow entries f.readers number f.live rows → (i : ℕ) → i < 8
      → length (nth rows i) ≡ f.handout.geometry.needed * block_length f.handout.geometry (number + i)
  row_needed rows joins i low = row_long rows joins i low ∙ (λ j. row_enough j * its_size i low j)

  pub row_right : (rows : List (List ℕ)) → IsRow entries f.readers number f.live rows → AreRowsProved f.readers f.live number rows size (length f.live)
      → (i : ℕ) → i < 8 → HaveRightBlocks entries f.readers f.live (number + i)
  row_right rows joins proved i low =
      right_blocks entries f (number + i) size k.is k.read (row_there f.handout number i k.is.handout k.row.wanted low) (its_size i low) (row_ready i low)
      (nth rows i) (joins i low) (proved i low)

-- where pieces of so many segments are made
pub record HasMadeMany (entries : List Request) (n : ℕ) (f g : FileState) : Type 0 where
  pub right : IsFile g
  pub reads : IsRead entries g
  pub makes : MakesSegments entries n f g
  pub same : IsSameFile f g

module _ (entries : List Request) (f : FileState) (number : ℕ) (groups groups' : List GroupState) (rows : List (List ℕ)) (h' : HandoutState) (is : IsFile f) (read : IsRead entries f)
    (next : next_segment f.handout ≡ Some number) (begun : HasLast f number groups) (wanted : IsRowWanted f.handout number)
    (blocks : (i : ℕ) → i < 8 → HaveRightBlocks entries f.readers f.live (number + i)) (joins : IsRow entries f.readers number f.live rows)
    (made : MakesRow f.handout groups number rows h' groups') where
  abbrev last_position : ℕ
  last_position = length groups - 1

  -- the last group, the groups, the handout and the file once so many segments are made
  abbrev group_at : ℕ → GroupState
  group_at n = with_end made.group (number + n)

  abbrev groups_at : ℕ → List GroupState
  groups_at n = slice_set groups last_position (group_at n)

  abbrev handout_at : ℕ → HandoutState
  handout_at n = first_handed_out f.handout made.segments n

  abbrev file_at : ℕ → FileState
  file_at n = record f { handout = handout_at n; groups = groups_at n }

  state_at : (n : ℕ) → n ≤ 8 → IsRowState f.handout number n (handout_at n)
  state_at n low = row_state f.handout number made.segments is.handout next wanted made.proved n low

  own : IsGroup f.handout f.readers made.group
  own = All-contains (IsGroup f.handout f.readers) groups made.group begun.groups_are (contains_at groups last_position made.group made.last)

  count : last_position + 1 ≡ length groups
  count = let some = begun.some in omega (arith, some)

  as_many : (n : ℕ) → length (groups_at n) ≡ length groups
  as_many n = length-set groups last_position (group_at n)

  last_at : (n : ℕ) → IsLast (groups_at n) (group_at n)
  last_at n = ap (λ (k : ℕ). slice_get (groups_at n) (k - 1)) (as_many n) ∙ get_set groups last_position (group_at n) made.group made.last

  begun_at : (n : ℕ) → n ≤ 8 → HasLast (file_at n) (number + n) (groups_at n)
  begun_at n low = record {
    some = let some = begun.some in let many = as_many n in omega (arith, some, many);
    in_order = raise_last groups last_position f.first number (number + n) made.group count begun.in_order made.last (omega arith);
    groups_are = All-set (IsGroup (handout_at n) f.readers) groups last_position (group_at n)
        (raised (stays made.group own)) (All-weaker (IsGroup f.handout f.readers) (IsGroup (handout_at n) f.readers) stays groups begun.groups_are);
    last = λ group at. ap (λ (g : GroupState). g.readers) (one_there (slice_get (groups_at n) (length (groups_at n) - 1)) group (group_at n) at (last_at n))
        ∙ begun.last made.group made.last;
    old = λ group i among from before. among;
    kept = λ group among. among;
  } where
    stays : (group : GroupState) → IsGroup f.handout f.readers group → IsGroup (handout_at n) f.readers group
    stays group k = group_stays f.handout (handout_at n) f.readers f.readers group (state_at n low).geometry (grow_same f.readers) k

    raised : IsGroup (handout_at n) f.readers made.group → IsGroup (handout_at n) f.readers (group_at n)
    raised k = record { geometry = k.geometry; decoding = k.decoding; there = k.there; numbers = k.numbers }

  made_at : (n : ℕ) → n < 8 → MakesSegment (handout_at n) (groups_at n) (number + n) (nth rows n) (handout_at (suc n)) (groups_at (suc n))
  unfolding first_handed_out
  made_at n low = record {
    group = group_at n;
    last = last_at n;
    segment = nth made.segments n;
    decodes = made.decodes n low;
    proved = still_proved f.handout (handout_at n) number n (number + n) (nth made.segments n) (state_at n (omega (arith, low))) (made.proved n low);
    handed = refl;
    groups_are = ap (λ (x : ℕ). slice_set groups last_position (with_end made.group x)) (let e : number + suc n ≡ number + n + 1 = omega arith in e)
        ∙ sym (set_again groups last_position (group_at n) (with_end made.group (number + n + 1)))
        ∙ ap (λ (k : ℕ). slice_set (groups_at n) (k - 1) (with_end made.group (number + n + 1))) (sym (as_many n));
  }

  first_groups : groups_at 0 ≡ groups
  first_groups =
      let end : made.group.end ≡ number = last_end groups last_position f.first number made.group count begun.in_order made.last in
      let e : number + 0 ≡ made.group.end = omega (arith, end) in
      ap (slice_set groups last_position) (ap (with_end made.group) e) ∙ set_same groups last_position made.group made.last

  made_many : (n : ℕ) → n ≤ 8 → HasMadeMany entries n f (file_at n)
  unfolding first_handed_out MakesSegments
  made_many zero low =
      let k = has_groups entries f number groups groups f.handout is read next begun refl refl in
      subst (λ (gs : List GroupState). HasMadeMany entries 0 f (record f { groups = gs })) (sym first_groups)
      (record { right = k.right; reads = k.reads; makes = refl; same = k.same })
  made_many (suc n) low =
      let below : n < 8 = omega (arith, low) in
      let before = made_many n (omega (arith, low)) in
      let k = has_made entries (file_at n) (number + n) (groups_at n) (groups_at (suc n)) (nth rows n) before.right before.reads
      ((state_at n (omega (arith, low))).next below) (begun_at n (omega (arith, low))) (blocks n below) (joins n below)
      (handout_at (suc n)) (state_at (suc n) low).right (made_at n below) in
      record { right = k.right; reads = k.reads; makes = (file_at n, before.makes, k.makes); same = same_two f (file_at n) (file_at (suc n)) before.same k.same }

  pub has_made_row : HasMadeMany entries 8 f (record f { handout = h'; groups = groups' })
  has_made_row =
      subst (λ (h : HandoutState). HasMadeMany entries 8 f (record f { handout = h; groups = groups' })) (sym made.handed)
      (subst (λ (gs : List GroupState). HasMadeMany entries 8 f (record f { handout = handout_at 8; groups = gs })) (sym made.groups_are)
      (made_many 8 (omega arith)))

-- ---- what holds of the file in the end

pub record HasEndedRow (entries : List Request) (r : Result Bool AllocError) (f g : FileState) : Type 0 where
  pub right : IsFile g
  pub reads : IsRead entries g
  pub same : IsSameFile f g
  pub made : r ≡ Ok true → MakesSegments entries 8 f g
  pub same_handout : r ≢ Ok true → g.handout ≡ f.handout
  pub asked_up : r ≢ Ok true → (reader : ℕ) → StaysAskedUp f g reader

is_made : (r : Result Bool AllocError) → (r ≡ Ok true) ⊎ (r ≢ Ok true)
is_made (Ok true) = inl refl
is_made (Ok false) = inr (λ e. absurd cc)
is_made (Err x) = inr (λ e. absurd cc)

pub has_ended_row : (entries : List Request) (f : FileState) (number size : ℕ) (groups groups' : List GroupState) (rows : List (List ℕ)) (h' : HandoutState) (r : Result Bool AllocError)
    → HasRowBlocks entries f number size → HasLast f number groups → IsRow entries f.readers number f.live rows
    → AreRowsProved f.readers f.live number rows size (length f.live) → (r ≡ Ok true → MakesRow f.handout groups number rows h' groups') → (r ≢ Ok true → (h' ≡ f.handout) × (groups' ≡ groups))
    → HasEndedRow entries r f (record f { handout = h'; groups = groups' })
has_ended_row entries f number size groups groups' rows h' r k begun joins proved made same = elim (is_made r) [
  | inl ok ↦
      let m = has_made_row entries f number groups groups' rows h' k.is k.read k.next begun k.row.wanted (row_right entries f number size k rows joins proved) joins (made ok) in
      record {
        right = m.right;
        reads = m.reads;
        same = m.same;
        made = λ _. m.makes;
        same_handout = λ other. absurd (other ok);
        asked_up = λ other. absurd (other ok);
      }
  | inr not ↦
      let m = has_groups entries f number groups groups' h' k.is k.read k.next begun (same not).0 (same not).1 in
      record {
        right = m.right;
        reads = m.reads;
        same = m.same;
        made = λ ok. absurd (not ok);
        same_handout = λ _. m.handout_is;
        asked_up = λ _. m.asked_up;
      }
]
