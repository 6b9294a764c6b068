-- A file with one segment more.
use Rattle.std.proofs.Common.{◌≡◌, ℕ, zero, suc, ◌+◌, ◌-◌, ◌*◌, ◌/◌, ◌<◌, ◌≤◌, inl, inr, All, Bool, true, false, Contains, List, [], ◌∷◌, ◌++◌, length, Option, Some, None, unwrap_or, refl, sym, ap, subst, ◌∙◌, arith}
use Rattle.std.specs.Prelude.{slice_get, slice_set, nat_lt, if◌then◌else◌}
use Rattle.std.proofs.Math.Nat.{div-lt_iff_lt-mul, div-mul-le_self}
use Rattle.std.proofs.lemmas.Bool.{cases_lt, ltb-false}
use Rattle.std.proofs.lemmas.List.{length-append}
use Rattle.std.proofs.lemmas.List.Elements.{All-contains, All-push, All-set, All-weaker, Contains-append_left, Contains-push_cases}
use Rattle.std.proofs.lemmas.Nat.{le-div}
use Rattle.lemmas.proofs.Options.{chosen, one_there}
use Rattle.lemmas.proofs.Positions.{get_last, get_set, set_cases}
use Rattle.lemmas.proofs.Members.{contains_at}
use Rattle.request_record.specs.declared.requests.Request.{Request}
use Rattle.merkle.proofs.PaddingLemmas.{lt_from_true}
use Rattle.share_layout.specs.Geometry.{Geometry}
use Rattle.proved_parts.specs.Decoding.{DecodesBlocks}
use Rattle.download_segments.specs.Decoding.{blocks_in}
use Rattle.download_segments.specs.Handout.{handed_out, next_end, next_piece, next_segment}
use Rattle.download_segments.specs.State.{HandoutState, IsHandout}
use Rattle.download_segments.specs.declared.piece.Piece.{Piece}
use Rattle.download_segments.proofs.HandoutLemmas.{next_is, next_follows, next_slice, valid_of}
use Rattle.download_segments.proofs.TreeLemmas.{grow_none}
use Rattle.download_segments.specs.GroupMaking.{MakesSegment}
use Rattle.download_segments.specs.GroupState.{GroupState, IsLast, new_group, with_end}
use Rattle.download_parts.proofs.TreeLemmas.{knows_itself}
use Rattle.download_file.specs.State.{FileState, numbers_of}
use Rattle.download_file.specs.Answers.{HaveRightBlocks, IsGivenBy, IsMade, IsMadeSegment, IsRead, blocks_of}
use Rattle.download_file.specs.Changes.{IsSameFile, StaysAskedUp, StaysGiven, StaysMade}
use Rattle.download_file.specs.Making.{MakesNext}
use Rattle.download_file.specs.Right.{AreConsecutive, IsFile, IsGroup, made_end}
use Rattle.download_file.specs.Steps.{BeginsGroup}
use Rattle.download_file.proofs.ListLemmas.{at_contained, get_cases}
use Rattle.download_file.proofs.GrowLemmas.{grow_same, group_stays, made_stays}
use Rattle.download_file.proofs.MakeLemmas.{live_numbers}
use Rattle.download_file.proofs.StateLemmas.{Follows, asked_up_stays, grows_itself, same_reader}

-- ---- groups that follow one another

pub last_end : (gs : List GroupState) (k from end : ℕ) (g : GroupState) → k + 1 ≡ length gs → AreConsecutive from gs end → slice_get gs k ≡ Some g → g.end ≡ end
last_end [] k from end g count is at = absurd cc
last_end (h ∷ []) zero from end g count is at = let same : h ≡ g = cc in ap (λ (x : GroupState). x.end) (sym same) ∙ is.2
last_end (h ∷ i ∷ gs) zero from end g count is at = absurd (omega (arith, count))
last_end (h ∷ gs) (suc k) from end g count is at = last_end gs k h.end end g (omega (arith, count)) is.2 at

last_order : (gs : List GroupState) (k from end : ℕ) (g : GroupState) → AreConsecutive from gs end → slice_get gs k ≡ Some g → g.first ≤ g.end
last_order [] k from end g is at = absurd cc
last_order (h ∷ gs) zero from end g is at = let same : h ≡ g = cc in subst (λ (x : GroupState). x.first ≤ x.end) same is.1
last_order (h ∷ gs) (suc k) from end g is at = last_order gs k h.end end g is.2 at

pub raise_last : (gs : List GroupState) (k from end to : ℕ) (g : GroupState) → k + 1 ≡ length gs → AreConsecutive from gs end → slice_get gs k ≡ Some g → end ≤ to
    → AreConsecutive from (slice_set gs k (with_end g to)) to
raise_last [] k from end to g count is at order = absurd cc
raise_last (h ∷ []) zero from end to g count is at order =
    let same : h ≡ g = cc in
    let own = is.1 in
    let last = is.2 in
    (ap (λ (x : GroupState). x.first) (sym same) ∙ is.0, subst (λ (x : GroupState). x.first ≤ to) same (omega (arith, own, last, order)), refl)
raise_last (h ∷ i ∷ gs) zero from end to g count is at order = absurd (omega (arith, count))
raise_last (h ∷ gs) (suc k) from end to g count is at order = (is.0, is.1, raise_last gs k h.end end to g (omega (arith, count)) is.2 at order)

push_empty : (from end : ℕ) (gs : List GroupState) (g : GroupState) → AreConsecutive from gs end → g.first ≡ end → g.end ≡ end → AreConsecutive from (gs ++ g ∷ []) end
push_empty from end [] g is first last = (first ∙ sym is, omega (arith, first, last), last)
push_empty from end (h ∷ gs) g is first last = (is.0, is.1, push_empty h.end end gs g is.2 first last)

-- ---- the last group is of the readers that are read

pub record HasLast (f : FileState) (number : ℕ) (groups : List GroupState) : Type 0 where
  pub some : 0 < length groups
  pub in_order : AreConsecutive f.first groups number
  pub groups_are : All (IsGroup f.handout f.readers) groups
  pub last : (group : GroupState) → IsLast groups group → group.readers ≡ f.live
  pub old : (group : GroupState) (n : ℕ) → Contains groups group → group.first ≤ n → n < group.end → Contains f.groups group
  pub kept : (group : GroupState) → Contains f.groups group → Contains groups group

pub has_last : (f : FileState) (number : ℕ) (groups : List GroupState) → IsFile f → next_segment f.handout ≡ Some number → length f.live ≡ f.handout.geometry.needed
    → BeginsGroup f.groups f.handout.geometry f.readers f.live number groups → HasLast f number groups
has_last f number groups is next enough (inl same) =
    subst (λ (gs : List GroupState). HasLast f number gs) (sym same.0) (record {
      some = some_in f.groups (length f.groups - 1) same.1 same.2;
      in_order = subst (AreConsecutive f.first f.groups) (ap (λ (o : Option ℕ). unwrap_or o f.end) next) is.in_order;
      groups_are = is.groups;
      last = λ group at. ap (λ (g : GroupState). g.readers) (one_there (slice_get f.groups (length f.groups - 1)) group same.1 at same.2) ∙ same.3;
      old = λ group n among from before. among;
      kept = λ group among. among;
    })
  where
    some_in : (gs : List GroupState) (k : ℕ) (g : GroupState) → slice_get gs k ≡ Some g → 0 < length gs
    some_in [] k g e = absurd cc
    some_in (h ∷ hs) k g e = omega arith
has_last f number groups is next enough (inr pushed) =
    let g : GroupState = new_group f.handout.geometry f.live (numbers_of f.readers f.live) number in
    let was : AreConsecutive f.first f.groups number = subst (AreConsecutive f.first f.groups) (ap (λ (o : Option ℕ). unwrap_or o f.end) next) is.in_order in
    let long : length (f.groups ++ g ∷ []) ≡ length f.groups + 1 = length-append f.groups (g ∷ []) in
    subst (λ (gs : List GroupState). HasLast f number gs) (sym pushed) (record {
      some = omega (arith, long);
      in_order = push_empty f.first number f.groups g was refl refl;
      groups_are = All-push (IsGroup f.handout f.readers) f.groups g is.groups
          (record { geometry = refl; decoding = live_numbers f is enough; there = is.live.there; numbers = refl });
      last = λ group at.
          let position : length (f.groups ++ g ∷ []) - 1 ≡ length f.groups = omega (arith, long) in
          let at_last : slice_get (f.groups ++ g ∷ []) (length (f.groups ++ g ∷ []) - 1) ≡ Some g = ap (slice_get (f.groups ++ g ∷ [])) position ∙ get_last f.groups g in
          ap (λ (x : GroupState). x.readers) (one_there (slice_get (f.groups ++ g ∷ []) (length (f.groups ++ g ∷ []) - 1)) group g at at_last);
      old = λ group n among from before. elim (Contains-push_cases f.groups g group among) [
        | inl k ↦ k
        | inr e ↦ absurd (let one = ap (λ (x : GroupState). x.first) e in let two = ap (λ (x : GroupState). x.end) e in omega (arith, one, two, from, before))
      ];
      kept = λ group among. Contains-append_left f.groups (g ∷ []) group among;
    })

-- ---- the segment is made

module _ (entries : List Request) (f : FileState) (number : ℕ) (groups groups' : List GroupState) (joined : List ℕ) (is : IsFile f) (read : IsRead entries f)
    (next : next_segment f.handout ≡ Some number) (begun : HasLast f number groups) (blocks : HaveRightBlocks entries f.readers f.live number) (joins : joined ≡ blocks_of entries f.readers number f.live)
    (h' : HandoutState) (right : IsHandout h') (made : MakesSegment f.handout groups number joined h' groups') where
  abbrev pub made_file : FileState
  made_file = record f { handout = handed_out f.handout made.segment; groups = groups' }

  is_right : IsHandout (handed_out f.handout made.segment)
  is_right = subst IsHandout made.handed right

  abbrev last_position : ℕ
  last_position = length groups - 1

  follows_next : next_segment (handed_out f.handout made.segment) ≡ (if nat_lt (next_end f.handout) f.handout.to then Some (number + 1) else None)
  follows_next = next_follows f.handout number made.segment is.handout next

  pub next_number : (n : ℕ) → next_segment (handed_out f.handout made.segment) ≡ Some n → (number + 1 ≡ n) × (number + 1 < f.end)
  next_number n e =
      let k = chosen (nat_lt (next_end f.handout) f.handout.to) (number + 1) n (sym follows_next ∙ e) in
      let low : next_end f.handout < f.handout.to = lt_from_true (next_end f.handout) f.handout.to k.0 in
      let seg = f.handout.geometry.segment_size in
      let own = (next_is f.handout number next).1 in
      let same : (f.handout.reached / seg + 1) * seg ≡ (number + 1) * seg = ap (λ (m : ℕ). (m + 1) * seg) own in
      let whole : (number + 1) * seg ≤ f.handout.to - 1 = omega (arith, low, same) in
      let le = le-div (number + 1) (f.handout.to - 1) seg (valid_of f.handout is.handout).some_segment whole in
      let last = is.last in
      (k.1, omega (arith, le, last))

  follows : Follows f made_file
  follows = record { geometry = refl; ueb = refl; first = refl; end = refl; shares = knows_itself f.handout.trees.shares; later = λ n e. (number, next, (let same = (next_number n e).0 in omega (arith, same))) }

  end_made : made_end made_file ≡ number + 1
  end_made = by (nat_lt (next_end f.handout) f.handout.to) refl
    where
      by : (b : Bool) → nat_lt (next_end f.handout) f.handout.to ≡ b → made_end made_file ≡ number + 1
      by true e = ap (λ (o : Option ℕ). unwrap_or o f.end) (follows_next ∙ ap (λ (b : Bool). if b then Some (number + 1) else None) e)
      by false e =
          ap (λ (o : Option ℕ). unwrap_or o f.end) (follows_next ∙ ap (λ (b : Bool). if b then Some (number + 1) else None) e)
          ∙ is.last ∙ ap (λ (n : ℕ). n + 1) (last_number (ltb-false (next_end f.handout) f.handout.to e))
        where
          last_number : f.handout.to ≤ next_end f.handout → (f.handout.to - 1) / f.handout.geometry.segment_size ≡ number
          last_number high =
              let seg = f.handout.geometry.segment_size in
              let some = (valid_of f.handout is.handout).some_segment in
              let k = next_is f.handout number next in
              let own = k.1 in
              let wanted = k.0 in
              let below = div-mul-le_self f.handout.reached seg in
              let whole : number * seg ≤ f.handout.to - 1 = let e : f.handout.reached / seg * seg ≡ number * seg = ap (λ (n : ℕ). n * seg) own in omega (arith, e, below, wanted) in
              let low : f.handout.to - 1 < (number + 1) * seg = let e : (f.handout.reached / seg + 1) * seg ≡ (number + 1) * seg = ap (λ (n : ℕ). (n + 1) * seg) own in omega (arith, e, high, wanted) in
              let less = (div-lt_iff_lt-mul {y = number + 1} some).1 low in
              let least = le-div number (f.handout.to - 1) seg some whole in
              omega (arith, less, least)

  made_geometry : made.group.decoding.geometry ≡ f.handout.geometry
  made_geometry = (All-contains (IsGroup f.handout f.readers) groups made.group begun.groups_are (contains_at groups last_position made.group made.last)).geometry

  made_readers : made.group.readers ≡ f.live
  made_readers = begun.last made.group made.last

  count : last_position + 1 ≡ length groups
  count = let some = begun.some in omega (arith, some)

  is_made : IsMade entries (handed_out f.handout made.segment) f.readers (with_end made.group (number + 1)) number
  is_made = record {
    right = λ position r among at. blocks position r (subst (λ (l : List ℕ). Contains l position) made_readers among) at;
    segment = made.segment;
    decodes = subst (λ (g : Geometry). DecodesBlocks g made.group.decoding.numbers (blocks_in g number (blocks_of entries f.readers number made.group.readers)) number made.segment) made_geometry
        (subst (λ (l : List ℕ). DecodesBlocks made.group.decoding.geometry made.group.decoding.numbers (blocks_in made.group.decoding.geometry number l) number made.segment)
        (joins ∙ ap (blocks_of entries f.readers number) (sym made_readers)) made.decodes);
    proved = record { size = made.proved.size; known = made.proved.known };
  }

  -- what was made before
  made_before : (group : GroupState) (n : ℕ) → Contains f.groups group → group.first ≤ n → n < group.end → IsMade entries (handed_out f.handout made.segment) f.readers group n
  made_before group n among from before =
      made_stays entries f.handout (handed_out f.handout made.segment) f.readers f.readers group n refl (grow_none f.handout.trees) (grow_same f.readers)
      (All-contains (IsGroup f.handout f.readers) f.groups group is.groups among) (read.made group n among from before)

  in_groups : (group : GroupState) (n : ℕ) → Contains groups' group → group.first ≤ n → n < group.end → IsMade entries (handed_out f.handout made.segment) f.readers group n
  in_groups group n among from before =
      let at = at_contained groups' group among in
      elim (set_cases groups last_position at.0 (with_end made.group (number + 1)) group (sym (ap (λ (gs : List GroupState). slice_get gs at.0) made.groups_are) ∙ at.1)) [
        | inr k ↦ made_before group n (begun.old group n (contains_at groups at.0 group k.1) from before) from before
        | inl k ↦
            let end : made.group.end ≡ number = last_end groups last_position f.first number made.group count begun.in_order made.last in
            let one = ap (λ (x : GroupState). x.end) k.1 in
            let first = ap (λ (x : GroupState). x.first) k.1 in
            elim (cases_lt n number) [
              | inl low ↦ subst (λ (x : GroupState). IsMade entries (handed_out f.handout made.segment) f.readers x n) k.1
                  (raised made.group n (made_before made.group n (begun.old made.group n (contains_at groups last_position made.group made.last) (omega (arith, first, from)) (omega (arith, end, low)))
                  (omega (arith, first, from)) (omega (arith, end, low))))
              | inr high ↦
                  let same : number ≡ n = omega (arith, one, before, high) in
                  subst (λ (x : GroupState). IsMade entries (handed_out f.handout made.segment) f.readers x n) k.1
                  (subst (λ (m : ℕ). IsMade entries (handed_out f.handout made.segment) f.readers (with_end made.group (number + 1)) m) same is_made)
            ]
      ]
    where
      raised : (group : GroupState) (n : ℕ) → IsMade entries (handed_out f.handout made.segment) f.readers group n
          → IsMade entries (handed_out f.handout made.segment) f.readers (with_end group (number + 1)) n
      raised group n k = record { right = k.right; segment = k.segment; decodes = k.decodes; proved = k.proved }

  -- ---- what was given stays given

  made_is : is_made.segment ≡ made.segment
  unfolding is_made
  made_is = refl

  abbrev raised_group : GroupState
  raised_group = with_end made.group (number + 1)

  in_raised : Contains groups' raised_group
  in_raised = subst (λ (gs : List GroupState). Contains gs raised_group) (sym made.groups_are)
      (contains_at (slice_set groups last_position raised_group) last_position raised_group (get_set groups last_position raised_group made.group made.last))

  module _ (others : List Request) (n : ℕ) (segment : List ℕ) (m : IsMadeSegment others f n segment) where
    again : IsMade others (handed_out f.handout made.segment) f.readers m.group n
    again = record { right = m.made.right; segment = m.made.segment; decodes = m.made.decodes; proved = record { size = m.made.proved.size; known = m.made.proved.known } }

    again_is : again.segment ≡ m.made.segment
    unfolding again
    again_is = refl

    still_made : IsMadeSegment others made_file n segment
    still_made =
        let at = at_contained groups m.group (begun.kept m.group m.among) in
        elim (get_cases groups last_position at.0 raised_group made.group m.group made.last at.1) [
          | inr k ↦ record {
            group = m.group;
            among = subst (λ (gs : List GroupState). Contains gs m.group) (sym made.groups_are) (contains_at (slice_set groups last_position raised_group) at.0 m.group k.1);
            from = m.from;
            before = m.before;
            made = again;
            is = again_is ∙ m.is;
          }
          | inl k ↦ last_made k.1
        ]
      where
        last_made : made.group ≡ m.group → IsMadeSegment others made_file n segment
        last_made same =
            let end : made.group.end ≡ number = last_end groups last_position f.first number made.group count begun.in_order made.last in
            let end_same = ap (λ (x : GroupState). x.end) same in
            let first_same = ap (λ (x : GroupState). x.first) same in
            let before = m.before in
            let from = m.from in
            record {
              group = with_end m.group (number + 1);
              among = subst (λ (g : GroupState). Contains groups' (with_end g (number + 1))) same in_raised;
              from = m.from;
              before = omega (arith, end, end_same, before);
              made = record { right = again.right; segment = again.segment; decodes = again.decodes; proved = again.proved };
              is = again_is ∙ m.is;
            }

  given_made : StaysGiven f made_file
  given_made others p g = record {
    number = g.number;
    segment = g.segment;
    made = still_made others g.number g.segment g.made;
    slice = g.slice;
  }

  -- the piece that is made of the segment
  next_given : IsGivenBy entries made_file (next_piece f.handout made.segment)
  next_given =
      let order = last_order groups last_position f.first number made.group begun.in_order made.last in
      let end : made.group.end ≡ number = last_end groups last_position f.first number made.group count begun.in_order made.last in
      record {
        number = number;
        segment = made.segment;
        made = record { group = raised_group; among = in_raised; from = omega (arith, order, end); before = omega arith; made = is_made; is = made_is };
        slice = next_slice f.handout number made.segment is.handout next made.proved.size;
      }

  pub read_made : IsRead entries made_file
  read_made = record {
    held = read.held;
    made = in_groups;
    ready = λ p among. elim (Contains-push_cases f.handout.ready (next_piece f.handout made.segment) p among) [
      | inl old ↦ given_made entries p (read.ready p old)
      | inr new ↦ subst (λ (q : Piece). IsGivenBy entries made_file q) new next_given
    ];
  }

  pub same_made : IsSameFile f made_file
  same_made = record {
    key = refl;
    ueb = refl;
    geometry = refl;
    to = refl;
    first = refl;
    end = refl;
    trees = grow_none f.handout.trees;
    readers = grow_same f.readers;
    made = still_made;
    given = given_made;
  }

  pub file_made : IsFile made_file
  file_made = record {
    handout = is_right;
    range = is.range;
    last = is.last;
    next = λ n e.
        let k = next_number n e in
        let same = k.0 in
        let low = k.1 in
        let from = (is.next number next).0 in
        (omega (arith, same, from), omega (arith, same, low));
    readers = λ position r at. same_reader f made_file r follows (is.readers position r at);
    live = record {
      once = is.live.once;
      apart = is.live.apart;
      there = is.live.there;
      asides = is.live.asides;
      few = is.live.few;
      different = is.live.different;
      waits = is.live.waits;
      upper = is.live.upper;
      reads = is.live.reads;
    };
    ciphertext = record {
      levels = is.ciphertext.levels;
      pieces = is.ciphertext.pieces;
      known = is.ciphertext.known;
      behind = is.ciphertext.behind;
    };
    groups = subst (All (IsGroup (handed_out f.handout made.segment) f.readers)) (sym made.groups_are)
        (All-set (IsGroup (handed_out f.handout made.segment) f.readers) groups last_position (with_end made.group (number + 1))
        (raised (stays made.group (All-contains (IsGroup f.handout f.readers) groups made.group begun.groups_are (contains_at groups last_position made.group made.last))))
        (All-weaker (IsGroup f.handout f.readers) (IsGroup (handed_out f.handout made.segment) f.readers) stays groups begun.groups_are));
    in_order = subst (AreConsecutive f.first groups') (sym end_made)
        (subst (λ (gs : List GroupState). AreConsecutive f.first gs (number + 1)) (sym made.groups_are)
        (raise_last groups last_position f.first number (number + 1) made.group count begun.in_order made.last (omega arith)));
  } where
    stays : (group : GroupState) → IsGroup f.handout f.readers group → IsGroup (handed_out f.handout made.segment) f.readers group
    stays group own = group_stays f.handout (handed_out f.handout made.segment) f.readers f.readers group refl (grow_same f.readers) own

    raised : IsGroup (handed_out f.handout made.segment) f.readers made.group → IsGroup (handed_out f.handout made.segment) f.readers (with_end made.group (number + 1))
    raised own = record { geometry = own.geometry; decoding = own.decoding; there = own.there; numbers = own.numbers }

-- ---- what holds of the file then

-- where a piece is made of the segment
pub record HasMade (entries : List Request) (f g : FileState) : Type 0 where
  pub right : IsFile g
  pub reads : IsRead entries g
  pub makes : MakesNext entries f g
  pub same : IsSameFile f g

pub has_made : (entries : List Request) (f : FileState) (number : ℕ) (groups groups' : List GroupState) (joined : List ℕ) → IsFile f → IsRead entries f
    → next_segment f.handout ≡ Some number → HasLast f number groups → HaveRightBlocks entries f.readers f.live number → joined ≡ blocks_of entries f.readers number f.live
    → (h' : HandoutState) → IsHandout h' → MakesSegment f.handout groups number joined h' groups' → HasMade entries f (record f { handout = h'; groups = groups' })
has_made entries f number groups groups' joined is read next begun blocks joins h' right made =
    subst (λ (h : HandoutState). HasMade entries f (record f { handout = h; groups = groups' })) (sym made.handed) (record {
      right = file_made entries f number groups groups' joined is read next begun blocks joins h' right made;
      reads = read_made entries f number groups groups' joined is read next begun blocks joins h' right made;
      makes = record { number = number; segment = made.segment; next = next; right = blocks; proved = made.proved; handed = refl };
      same = same_made entries f number groups groups' joined is read next begun blocks joins h' right made;
    })

-- where none is, and the last group is of the readers that are read
pub record HasGroups (entries : List Request) (f g : FileState) : Type 0 where
  pub right : IsFile g
  pub reads : IsRead entries g
  pub asked_up : (reader : ℕ) → StaysAskedUp f g reader
  pub same : IsSameFile f g
  pub handout_is : g.handout ≡ f.handout

pub has_groups : (entries : List Request) (f : FileState) (number : ℕ) (groups groups' : List GroupState) (h' : HandoutState) → IsFile f → IsRead entries f
    → next_segment f.handout ≡ Some number → HasLast f number groups → h' ≡ f.handout → groups' ≡ groups → HasGroups entries f (record f { handout = h'; groups = groups' })
has_groups entries f number groups groups' h' is read next begun same_handout same_groups =
    subst (λ (h : HandoutState). HasGroups entries f (record f { handout = h; groups = groups' })) (sym same_handout)
    (subst (λ (gs : List GroupState). HasGroups entries f (record f { groups = gs })) (sym same_groups) (record {
      right = record {
        handout = is.handout;
        range = is.range;
        last = is.last;
        next = is.next;
        readers = λ position r at. same_reader f (record f { groups = groups }) r follows_same (is.readers position r at);
        live = record {
          once = is.live.once;
          apart = is.live.apart;
          there = is.live.there;
          asides = is.live.asides;
          few = is.live.few;
          different = is.live.different;
          waits = is.live.waits;
          upper = is.live.upper;
          reads = is.live.reads;
        };
        ciphertext = record {
          levels = is.ciphertext.levels;
          pieces = is.ciphertext.pieces;
          known = is.ciphertext.known;
          behind = is.ciphertext.behind;
        };
        groups = begun.groups_are;
        in_order = subst (AreConsecutive f.first groups) (sym (ap (λ (o : Option ℕ). unwrap_or o f.end) next)) begun.in_order;
      };
      reads = record {
        held = read.held;
        made = λ group n among from before. read.made group n (begun.old group n among from before) from before;
        ready = λ p among. given_same entries p (read.ready p among);
      };
      asked_up = λ reader. asked_up_stays f (record f { groups = groups }) reader refl (λ now. now) (λ r at. (r, at, grows_itself r.supply));
      same = record {
        key = refl;
        ueb = refl;
        geometry = refl;
        to = refl;
        first = refl;
        end = refl;
        trees = grow_none f.handout.trees;
        readers = grow_same f.readers;
        made = made_same;
        given = given_same;
      };
      handout_is = refl;
    }))
  where
    follows_same : Follows f (record f { groups = groups })
    follows_same = record { geometry = refl; ueb = refl; first = refl; end = refl; shares = knows_itself f.handout.trees.shares; later = λ n e. (n, e, omega arith) }

    made_same : StaysMade f (record f { groups = groups })
    made_same others n segment m =
        record { group = m.group; among = begun.kept m.group m.among; from = m.from; before = m.before; made = m.made; is = m.is }

    given_same : StaysGiven f (record f { groups = groups })
    given_same others p g = record { number = g.number; segment = g.segment; made = made_same others g.number g.segment g.made; slice = g.slice }
