-- A file with one part more taken of a reader.
use Rattle.std.proofs.Common.{◌≡◌, ℕ, zero, suc, ◌+◌, ◌<◌, ◌≤◌, ◌⊎◌, inl, inr, All, List, [], ◌∷◌, ◌++◌, length, drop, get_or, Option, Some, refl, sym, ap, subst, ◌∙◌, arith}
use Rattle.std.specs.Prelude.{slice_get, slice_set}
use Rattle.std.proofs.lemmas.Bool.{cases_lt}
use Rattle.std.proofs.lemmas.List.{append-nil, length-append, length-set}
use Rattle.std.proofs.lemmas.List.Elements.{All-tail, All-weaker}
use Rattle.lemmas.proofs.Options.{one_there}
use Rattle.lemmas.proofs.Positions.{get_set, get_other, set_cases}
use Rattle.request_record.specs.declared.requests.Request.{Request}
use Rattle.share_layout.specs.Geometry.{Geometry}
use Rattle.download_parts.specs.Plan.{IsNodePiece, length_of, offset_of}
use Rattle.download_parts.specs.declared.part.NodePiece.{NodePiece}
use Rattle.download_parts.specs.declared.part.Part.{Part}
use Rattle.download_parts.specs.declared.part.Part.TheVariants.{ShareHashes, BlockTree, CiphertextTree, Data}
use Rattle.download_parts.specs.Trees.{FileTreesState}
use Rattle.download_supply.specs.Asking.{IsAsked, IsReadOf}
use Rattle.download_supply.specs.Cursors.{IsNextPiece, LeadOn, cursor_at, passed, piece_passed}
use Rattle.download_supply.specs.Laws.{KnowsPiece}
use Rattle.merkle.specs.Partial.{PartialState}
use Rattle.download_supply.specs.Supply.{SupplyState, first_of}
use Rattle.download_supply.specs.Taking.{IsDue}
use Rattle.download_supply.specs.Upper.{UpperComeFirst}
use Rattle.download_supply.specs.declared.cursors.Cursors.{Cursors}
use Rattle.download_supply.proofs.CursorLemmas.{piece_next}
use Rattle.download_supply.proofs.LawLemmas.{first_due}
use Rattle.download_segments.specs.State.{HandoutState, with_trees}
use Rattle.download_file.specs.State.{FileState, IsHeard, ReaderState, copy, copy_of, copies, waiting_at, waiting_in, waiting_parts}
use Rattle.download_file.specs.Answers.{AnswersFirst, HoldsAnswers, HoldsFor, IsAnswerOf, IsAnswerTo, IsRead}
use Rattle.request_record.specs.declared.requests.Asked.TheVariants.{Reading}
use Rattle.download_file.specs.Asked.{AsksNoMore}
use Rattle.download_file.specs.Changes.{GoesOn, IsSameFile, OthersWait, ReadersGoOn, StaysAskedUp}
use Rattle.download_file.specs.Right.{AreLive, GivesTree, IsFile, IsGroup, IsReaderOf, WaitsByLevels}
use Rattle.download_file.specs.Steps.{IsTaker, PassesPart, TakesPart, held_with}
use Rattle.download_file.specs.declared.reader.Waiting.{Waiting}
use Rattle.download_file.proofs.ListLemmas.{get_cases, map_set, set_same}
use Rattle.download_file.proofs.GrowLemmas.{goes_same, group_stays, holds_as, read_stays, same_file}
use Rattle.download_file.proofs.StateLemmas.{Follows, GrowsAsks, KeepsAsks, SameAsks, StillAsks, asked_up_stays, asks_itself, asks_no_more, grows_itself, reader_stays, same_asks, same_reader}

-- ---- kinds of parts

same_ciphertext : (p q : NodePiece) → CiphertextTree p ≡ CiphertextTree q → p ≡ q
same_ciphertext p q e = cc

-- the cursors of the ciphertext tree once a part is passed
abbrev tree_with : List ℕ → Part → List ℕ
tree_with levels (CiphertextTree p) = piece_passed levels p
tree_with levels part = levels

passed_tree : (c : Cursors) (part : Part) → (passed c part).ciphertext_tree ≡ tree_with c.ciphertext_tree part
passed_tree c ShareHashes = refl
passed_tree c (BlockTree p) = refl
passed_tree c (CiphertextTree p) = refl
passed_tree c (Data i) = refl

-- a number before which no more are than before another
less_all : (a b : ℕ) → ((i : ℕ) → i < a → i < b) → a ≤ b
less_all zero b each = omega arith
less_all (suc a) b each = let k = each a (omega arith) in omega (arith, k)

-- which pieces are before the cursors then
tree_cases : (levels : List ℕ) (part : Part) (p : NodePiece) → ((q : NodePiece) → part ≡ CiphertextTree q → IsNextPiece levels q)
    → p.index < cursor_at (tree_with levels part) p.level → (p.index < cursor_at levels p.level) ⊎ (part ≡ CiphertextTree p)
tree_cases levels ShareHashes p next low = inl low
tree_cases levels (BlockTree q) p next low = inl low
tree_cases levels (CiphertextTree q) p next low = elim ((piece_next levels q p (next q refl)).0 low) [ inl old ↦ inl old | inr same ↦ inr (ap CiphertextTree same) ]
tree_cases levels (Data i) p next low = inl low

-- ---- what was taken of the ciphertext tree, with this part

-- the pieces that are taken then: those that were, and this part where it is one, which is known
pub record HasPassed (g : Geometry) (a b : ℕ) (tree : PartialState) (taken : List ℕ) (part : Part) (new : List ℕ) : Type 0 where
  pub length_is : length new ≡ 3
  pub more : (p : NodePiece) → p.index < cursor_at taken p.level → p.index < cursor_at new p.level
  pub which : (p : NodePiece) → p.index < cursor_at new p.level → (p.index < cursor_at taken p.level) ⊎ ((part ≡ CiphertextTree p) × KnowsPiece g a b tree p)
  pub its : (p : NodePiece) → part ≡ CiphertextTree p → p.index < cursor_at new p.level

-- The part is due of a reader of which these pieces were taken, no more than of the file.
module _ (g : Geometry) (a b : ℕ) (tree : PartialState) (taken own : List ℕ) (levels : length taken ≡ 3) (behind : (level : ℕ) → cursor_at own level ≤ cursor_at taken level) where
  next_of : (q : NodePiece) → q.level < 3 → q.index ≡ cursor_at own q.level → cursor_at taken q.level ≤ q.index → IsNextPiece taken q
  next_of q level index high = record { level = omega (arith, level, levels); index = (let low = behind q.level in omega (arith, index, high, low)) }

  no_piece : (part : Part) (new : List ℕ) → new ≡ taken → ((p : NodePiece) → part ≡ CiphertextTree p → ⊥) → HasPassed g a b tree taken part new
  no_piece part new same other = record {
    length_is = ap length same ∙ levels;
    more = λ p low. subst (λ (l : List ℕ). p.index < cursor_at l p.level) (sym same) low;
    which = λ p low. inl (subst (λ (l : List ℕ). p.index < cursor_at l p.level) same low);
    its = λ p is. absurd (other p is);
  }

  pub has_passed : (part : Part) (new : List ℕ) → ((q : NodePiece) → part ≡ CiphertextTree q → IsNextPiece own q × (q.level < 3)) → PassesPart g a b tree part taken new → HasPassed g a b tree taken part new
  has_passed ShareHashes new due same = no_piece ShareHashes new same (λ p e. cc)
  has_passed (BlockTree q) new due same = no_piece (BlockTree q) new same (λ p e. cc)
  has_passed (Data i) new due same = no_piece (Data i) new same (λ p e. cc)
  has_passed (CiphertextTree q) new due (inl was) = record {
    length_is = ap length was.1 ∙ levels;
    more = λ p low. subst (λ (l : List ℕ). p.index < cursor_at l p.level) (sym was.1) low;
    which = λ p low. inl (subst (λ (l : List ℕ). p.index < cursor_at l p.level) was.1 low);
    its = λ p is.
        let low : q.index < cursor_at new q.level = subst (λ (l : List ℕ). q.index < cursor_at l q.level) (sym was.1) was.0 in
        subst (λ (n : NodePiece). n.index < cursor_at new n.level) (same_ciphertext q p is) low;
  }
  has_passed (CiphertextTree q) new due (inr k) =
      let k_due = due q refl in
      let next : IsNextPiece taken q = next_of q k_due.1 k_due.0.index k.0 in
      record {
        length_is = ap length k.1 ∙ length-set taken q.level (q.index + 1) ∙ levels;
        more = λ p low. subst (λ (l : List ℕ). p.index < cursor_at l p.level) (sym k.1) ((piece_next taken q p next).1 (inl low));
        which = λ p low. elim ((piece_next taken q p next).0 (subst (λ (l : List ℕ). p.index < cursor_at l p.level) k.1 low)) [
          | inl old ↦ inl old
          | inr same ↦ inr (ap CiphertextTree same, subst (KnowsPiece g a b tree) same k.2)
        ];
        its = λ p is. subst (λ (l : List ℕ). p.index < cursor_at l p.level) (sym k.1) ((piece_next taken q p next).1 (inr (same_ciphertext q p is)));
      }

held_more : (held : List ℕ) (part : Part) (position : ℕ) → (more : List ℕ) × (held_with held part position ≡ held ++ more)
held_more held ShareHashes position = ([], sym (append-nil held))
held_more held (BlockTree p) position = ([], sym (append-nil held))
held_more held (CiphertextTree p) position = ([], sym (append-nil held))
held_more held (Data i) position = (position ∷ [], refl)

get_front : (xs ys : List ℕ) (k : ℕ) → k < length xs → get_or (xs ++ ys) k 0 ≡ get_or xs k 0
get_front [] ys k low = absurd (omega (arith, low))
get_front (x ∷ xs) ys zero low = refl
get_front (x ∷ xs) ys (suc k) low = get_front xs ys k (omega (arith, low))

get_behind : (xs : List ℕ) (y k : ℕ) → k ≡ length xs → get_or (xs ++ y ∷ []) k 0 ≡ y
get_behind [] y zero e = refl
get_behind [] y (suc k) e = absurd (omega (arith, e))
get_behind (x ∷ xs) y zero e = absurd (omega (arith, e))
get_behind (x ∷ xs) y (suc k) e = get_behind xs y k (omega (arith, e))

-- the answers that are held, with this part
holds_with : (entries : List Request) (server share : ℕ) (s : SupplyState) (part : Part) (position : ℕ) → HoldsFor entries server share s
    → ((i : ℕ) → part ≡ Data i → (i ≡ length s.held) × IsAnswerOf entries server share (offset_of s.geometry s.first s.end (Data i)) (length_of s.geometry s.first s.end (Data i)) position)
    → (k : ℕ) → k < length (held_with s.held part position)
    → IsAnswerOf entries server share (offset_of s.geometry s.first s.end (Data k)) (length_of s.geometry s.first s.end (Data k)) (get_or (held_with s.held part position) k 0)
holds_with entries server share s ShareHashes position holds datum k low = holds k low
holds_with entries server share s (BlockTree p) position holds datum k low = holds k low
holds_with entries server share s (CiphertextTree p) position holds datum k low = holds k low
holds_with entries server share s (Data i) position holds datum k low =
    let at_position : ℕ → Type 0 = λ n. IsAnswerOf entries server share (offset_of s.geometry s.first s.end (Data k)) (length_of s.geometry s.first s.end (Data k)) n in
    elim (cases_lt k (length s.held)) [
      | inl before ↦ subst at_position (sym (get_front s.held (position ∷ []) k before)) (holds k before)
      | inr behind ↦
          let long = length-append s.held (position ∷ []) in
          let at : k ≡ length s.held = omega (arith, low, long, behind) in
          let one = datum i refl in
          let same : i ≡ k = one.0 ∙ sym at in
          subst at_position (sym (get_behind s.held position k at))
          (subst (λ (n : ℕ). IsAnswerOf entries server share (offset_of s.geometry s.first s.end (Data n)) (length_of s.geometry s.first s.end (Data n)) position) same one.1)
    ]

-- ---- the file

pub record HasTaken (f : FileState) (reader : ℕ) (bytes : List ℕ) (g : FileState) : Type 0 where
  pub right : IsFile g
  pub taken_is : waiting_at g reader ≡ drop 1 (waiting_at f reader)
  pub copies_are : copies g ≡ copies f
  pub others : OthersWait f reader g
  pub asked : AsksNoMore f g
  pub asked_up : (other : ℕ) → StaysAskedUp f g other
  pub reads : (entries : List Request) → IsRead entries f → AnswersFirst entries f reader bytes → IsRead entries g
  pub same : IsSameFile f g

module _ (f : FileState) (t : FileTreesState) (reader : ℕ) (r r' : ReaderState) (w : Waiting) (ws : List Waiting) (taken' : List ℕ)
    (is : IsFile f) (heard : IsHeard f reader) (at : slice_get f.readers reader ≡ Some r) (waits : r.waiting ≡ w ∷ ws) where
  -- it is the one that is due
  pub is_due : IsDue r.supply w.wanted.part
  is_due = first_due r.supply w.wanted.part (waiting_parts ws)
      (subst (λ (l : List Waiting). LeadOn r.supply.taken (waiting_parts l) r.supply.asked) waits (is.live.waits reader r heard at))

  pub is_read : IsReadOf r.supply w.wanted
  is_read = subst (λ (l : List Waiting). All (λ v. IsReadOf r.supply v.wanted) l) waits (is.live.reads reader r heard at) 0 w (omega arith)

  pub is_taker : IsTaker f.handout f.first f.end r w
  is_taker =
      let own = is.readers reader r at in
      record {
        right = is.handout;
        supply = own.supply;
        geometry = own.geometry;
        start = own.start;
        end = own.end;
        share = own.share;
        root = own.root;
        due = is_due;
        read = is_read;
      }

  module _ (T : TakesPart f.handout r f.taken f.first f.end w.wanted.part w.position (with_trees f.handout t) r' taken') where
    abbrev pub taken_file : FileState
    taken_file = record f { handout = with_trees f.handout t; taken = taken'; readers = slice_set f.readers reader r' }

    follows : Follows f taken_file
    follows = record { geometry = refl; ueb = refl; first = refl; end = refl; shares = T.grow.shares; later = λ number next. (number, next, omega arith) }

    is_taken : IsReaderOf taken_file r'
    is_taken = reader_stays f taken_file r r' follows (is.readers reader r at) T.share T.supply (ap (λ (s : SupplyState). s.geometry) T.supply_is)
        (ap (λ (s : SupplyState). s.start) T.supply_is) (ap (λ (s : SupplyState). s.first) T.supply_is) (ap (λ (s : SupplyState). s.end) T.supply_is) T.root

    goes : GoesOn r.supply r'.supply
    goes =
        let more = held_more r.supply.held w.wanted.part w.position in
        record {
          geometry = ap (λ (s : SupplyState). s.geometry) T.supply_is;
          start = ap (λ (s : SupplyState). s.start) T.supply_is;
          first = ap (λ (s : SupplyState). s.first) T.supply_is;
          end = ap (λ (s : SupplyState). s.end) T.supply_is;
          tree = T.tree;
          more = more.0;
          held = ap (λ (s : SupplyState). s.held) T.supply_is ∙ more.1;
        }

    asks : SameAsks r.supply r'.supply
    asks = same_asks r.supply r'.supply goes.geometry goes.start goes.first goes.end (ap (λ (s : SupplyState). s.given) T.supply_is) (ap (λ (s : SupplyState). s.asked) T.supply_is)

    grows : GrowsAsks r.supply r'.supply
    grows = record {
      geometry = goes.geometry;
      start = goes.start;
      first = goes.first;
      end = goes.end;
      given = ap (λ (s : SupplyState). s.given) T.supply_is;
      asked = λ part. (asks.asked part).1;
    }

    pub grow_taken : ReadersGoOn f.readers (slice_set f.readers reader r')
    grow_taken position q there = elim (get_cases f.readers reader position r' r q at there) [
      | inl k ↦ record {
        now = r';
        there = k.2;
        server = T.server ∙ ap (λ (x : ReaderState). x.server) k.1;
        share = T.share ∙ ap (λ (x : ReaderState). x.share) k.1;
        supply = subst (λ (x : ReaderState). GoesOn x.supply r'.supply) k.1 goes;
      }
      | inr k ↦ record { now = q; there = k.1; server = refl; share = refl; supply = goes_same q.supply }
    ]

    pub still_taken : StillAsks f.readers (slice_set f.readers reader r')
    still_taken position q there = elim (get_cases f.readers reader position r' r q at there) [
      | inl k ↦ (r', k.2, subst (λ (x : ReaderState). SameAsks x.supply r'.supply) k.1 asks)
      | inr k ↦ (q, k.1, asks_itself q.supply)
    ]

    pub keeps_taken : KeepsAsks f.readers (slice_set f.readers reader r')
    keeps_taken position q there = elim (set_cases f.readers reader position r' q there) [
      | inl k ↦ inl (r, ap (slice_get f.readers) k.0 ∙ at, subst (λ (x : ReaderState). SameAsks r.supply x.supply) k.1 asks)
      | inr k ↦ inl (q, k.1, asks_itself q.supply)
    ]

    pub grows_taken : (position : ℕ) (q : ReaderState) → slice_get (slice_set f.readers reader r') position ≡ Some q → (o : ReaderState) × (slice_get f.readers position ≡ Some o) × GrowsAsks o.supply q.supply
    grows_taken position q there = elim (set_cases f.readers reader position r' q there) [
      | inl k ↦ (r, ap (slice_get f.readers) k.0 ∙ at, subst (λ (x : ReaderState). GrowsAsks r.supply x.supply) k.1 grows)
      | inr k ↦ (q, k.1, grows_itself q.supply)
    ]

    share_was : (position : ℕ) (q : ReaderState) → slice_get (slice_set f.readers reader r') position ≡ Some q → (o : ReaderState) × (slice_get f.readers position ≡ Some o) × (q.share ≡ o.share)
    share_was position q there = elim (set_cases f.readers reader position r' q there) [
      | inl k ↦ (r, ap (slice_get f.readers) k.0 ∙ at, sym (ap (λ (x : ReaderState). x.share) k.1) ∙ T.share)
      | inr k ↦ (q, k.1, refl)
    ]

    leads_on : LeadOn r'.supply.taken (waiting_parts r'.waiting) r'.supply.asked
    leads_on =
        let was = subst (λ (l : List Waiting). LeadOn r.supply.taken (waiting_parts l) r.supply.asked) waits (is.live.waits reader r heard at) in
        let rest : r'.waiting ≡ ws = T.waiting ∙ ap (drop 1) waits in
        subst (λ (l : List Waiting). LeadOn r'.supply.taken (waiting_parts l) r'.supply.asked) (sym rest)
        (subst (λ (s : SupplyState). LeadOn s.taken (waiting_parts ws) s.asked) (sym T.supply_is) was.1)

    upper_on : WaitsByLevels r'
    upper_on =
        let was = subst (λ (l : List Waiting). UpperComeFirst r.supply.geometry (first_of r.supply) r.supply.taken (waiting_parts l)) waits (is.live.upper reader r heard at) in
        let rest : r'.waiting ≡ ws = T.waiting ∙ ap (drop 1) waits in
        subst (λ (l : List Waiting). UpperComeFirst r'.supply.geometry (first_of r'.supply) r'.supply.taken (waiting_parts l)) (sym rest)
        (subst (λ (s : SupplyState). UpperComeFirst s.geometry (first_of s) s.taken (waiting_parts ws)) (sym T.supply_is) was.1)

    reads_on : All (λ v. IsReadOf r'.supply v.wanted) r'.waiting
    reads_on =
        let rest : r'.waiting ≡ ws = T.waiting ∙ ap (drop 1) waits in
        let was = subst (λ (l : List Waiting). All (λ v. IsReadOf r.supply v.wanted) l) waits (is.live.reads reader r heard at) in
        subst (λ (l : List Waiting). All (λ v. IsReadOf r'.supply v.wanted) l) (sym rest)
        (subst (λ (s : SupplyState). All (λ v. IsReadOf s v.wanted) ws) (sym T.supply_is) (All-tail (λ v. IsReadOf r.supply v.wanted) w ws was))

    live_taken : AreLive taken_file
    live_taken = record {
      once = is.live.once;
      apart = is.live.apart;
      there = All-weaker (λ position. position < length f.readers) (λ position. position < length (slice_set f.readers reader r'))
          (λ position low. let long = length-set f.readers reader r' in omega (arith, low, long)) f.live is.live.there;
      asides = All-weaker (λ position. position < length f.readers) (λ position. position < length (slice_set f.readers reader r'))
          (λ position low. let long = length-set f.readers reader r' in omega (arith, low, long)) f.aside is.live.asides;
      few = is.live.few;
      different = λ i j x y one two order at_one at_two same.
          let a = share_was i x at_one in
          let b = share_was j y at_two in
          is.live.different i j a.0 b.0 one two order a.1 b.1 (sym a.2 ∙ same ∙ b.2);
      waits = λ position q one there. elim (set_cases f.readers reader position r' q there) [
        | inl k ↦ subst (λ (x : ReaderState). LeadOn x.supply.taken (waiting_parts x.waiting) x.supply.asked) k.1 leads_on
        | inr k ↦ is.live.waits position q one k.1
      ];
      upper = λ position q one there. elim (set_cases f.readers reader position r' q there) [
        | inl k ↦ subst WaitsByLevels k.1 upper_on
        | inr k ↦ is.live.upper position q one k.1
      ];
      reads = λ position q one there. elim (set_cases f.readers reader position r' q there) [
        | inl k ↦ subst (λ (x : ReaderState). All (λ v. IsReadOf x.supply v.wanted) x.waiting) k.1 reads_on
        | inr k ↦ is.live.reads position q one k.1
      ];
    }

    behind_own : (level : ℕ) → cursor_at r.supply.taken.ciphertext_tree level ≤ cursor_at f.taken level
    behind_own level = is.ciphertext.behind reader level r heard at

    due_piece : (q : NodePiece) → w.wanted.part ≡ CiphertextTree q → IsNextPiece r.supply.taken.ciphertext_tree q × (q.level < 3)
    due_piece q part =
        let due : IsDue r.supply (CiphertextTree q) = subst (λ (p : Part). IsDue r.supply p) part is_due in
        let level = due.next.level in
        let three = (is.readers reader r at).supply.taken_levels.ciphertext_tree in
        (due.next, omega (arith, level, three))

    passed_is : HasPassed f.handout.geometry f.first f.end t.ciphertext f.taken w.wanted.part taken'
    passed_is = has_passed f.handout.geometry f.first f.end t.ciphertext f.taken r.supply.taken.ciphertext_tree is.ciphertext.levels behind_own w.wanted.part taken' due_piece T.passes

    -- no more was taken of the reader than of the file
    own_behind : (level : ℕ) → cursor_at r'.supply.taken.ciphertext_tree level ≤ cursor_at taken' level
    own_behind level =
        let now : r'.supply.taken.ciphertext_tree ≡ tree_with r.supply.taken.ciphertext_tree w.wanted.part =
        ap (λ (s : SupplyState). s.taken.ciphertext_tree) T.supply_is ∙ passed_tree r.supply.taken w.wanted.part in
        less_all _ _ (λ i low.
        let p : NodePiece = record { level = level; index = i } in
        elim (tree_cases r.supply.taken.ciphertext_tree w.wanted.part p (λ q part. (due_piece q part).0) (subst (λ (l : List ℕ). i < cursor_at l level) now low)) [
          | inl old ↦ passed_is.more p (let k = behind_own level in omega (arith, old, k))
          | inr part ↦ passed_is.its p part
        ])

    more_taken : (level : ℕ) → cursor_at f.taken level ≤ cursor_at taken' level
    more_taken level = less_all _ _ (λ i low. let p : NodePiece = record { level = level; index = i } in passed_is.more p low)

    piece_due : (p : NodePiece) → w.wanted.part ≡ CiphertextTree p → IsNodePiece f.handout.geometry f.first f.end p
    piece_due p part =
        let due : IsDue r.supply (CiphertextTree p) = subst (λ (q : Part). IsDue r.supply q) part is_due in
        let own = is.readers reader r at in
        let piece = own.supply.parts (CiphertextTree p) due.asked in
        subst (λ (g : Geometry). IsNodePiece g f.first f.end p) own.geometry
        (subst (λ (n : ℕ). IsNodePiece r.supply.geometry n f.end p) own.start (subst (λ (n : ℕ). IsNodePiece r.supply.geometry r.supply.start n p) own.end piece))

    gives_taken : GivesTree taken_file
    gives_taken = record {
      levels = passed_is.length_is;
      pieces = λ p low. elim (passed_is.which p low) [ inl old ↦ is.ciphertext.pieces p old | inr k ↦ piece_due p k.0 ];
      known = λ p low. elim (passed_is.which p low) [
        | inl old ↦ λ position among. T.stays _ (is.ciphertext.known p old position among)
        | inr k ↦ k.1
      ];
      behind = λ position level q one there. elim (set_cases f.readers reader position r' q there) [
        | inl k ↦ subst (λ (x : ReaderState). cursor_at x.supply.taken.ciphertext_tree level ≤ cursor_at taken' level) k.1 (own_behind level)
        | inr k ↦ let old = is.ciphertext.behind position level q one k.1 in let more = more_taken level in omega (arith, old, more)
      ];
    }

    pub file_taken : IsFile taken_file
    file_taken = record {
      handout = T.right;
      range = is.range;
      last = is.last;
      next = is.next;
      readers = λ position q there. elim (set_cases f.readers reader position r' q there) [
        | inl k ↦ subst (IsReaderOf taken_file) k.1 is_taken
        | inr k ↦ same_reader f taken_file q follows (is.readers position q k.1)
      ];
      live = live_taken;
      ciphertext = gives_taken;
      groups = All-weaker (IsGroup f.handout f.readers) (IsGroup (with_trees f.handout t) (slice_set f.readers reader r'))
          (λ group own. group_stays f.handout (with_trees f.handout t) f.readers (slice_set f.readers reader r') group refl grow_taken own) f.groups is.groups;
      in_order = is.in_order;
    }

    holds_taken : (entries : List Request) (bytes : List ℕ) → HoldsAnswers entries r → IsAnswerTo entries r w bytes → length bytes ≡ w.wanted.read.length
        → HoldsAnswers entries r'
    holds_taken entries bytes holds a long =
        holds_as entries r.server r.share r'.server r'.share r'.supply T.server T.share
        (subst (HoldsFor entries r.server r.share) (sym T.supply_is)
        (holds_with entries r.server r.share r.supply w.wanted.part w.position holds (λ i part.
        let due : IsDue r.supply (Data i) = subst (λ (p : Part). IsDue r.supply p) part is_due in
        let begin_is : w.wanted.read.offset ≡ offset_of r.supply.geometry r.supply.first r.supply.end (Data i) = is_read.offset ∙ (λ j. offset_of r.supply.geometry (first_of r.supply (part j)) r.supply.end (part j)) in
        let long_is : w.wanted.read.length ≡ length_of r.supply.geometry r.supply.first r.supply.end (Data i) = is_read.length ∙ (λ j. length_of r.supply.geometry (first_of r.supply (part j)) r.supply.end (part j)) in (
          due.next ∙ sym (is.readers reader r at).supply.held,
          record {
            request = a.request;
            there = a.there;
            of_server = a.of_server;
            asked = a.asked ∙ (λ j. Reading r.share (begin_is j) (long_is j));
            bytes = bytes;
            answer = a.answer;
            long = long ∙ long_is;
          },
        ))))

    pub read_taken : (entries : List Request) (bytes : List ℕ) → IsRead entries f → AnswersFirst entries f reader bytes
        → length bytes ≡ w.wanted.read.length → IsRead entries taken_file
    read_taken entries bytes read answered long =
        let same : answered.r ≡ r = one_there (slice_get f.readers reader) answered.r r answered.there at in
        let list : answered.first ∷ answered.others ≡ w ∷ ws = sym answered.waits ∙ ap (λ (x : ReaderState). x.waiting) same ∙ waits in
        let one : answered.first ≡ w = cc in
        let own : IsAnswerTo entries r w bytes = subst (λ (x : ReaderState). IsAnswerTo entries x w bytes) same (subst (λ (v : Waiting). IsAnswerTo entries answered.r v bytes) one answered.answers) in
        read_stays entries f taken_file refl refl refl T.grow grow_taken is.groups refl (λ p among. among)
        (λ other q there. elim (set_cases f.readers reader other r' q there) [
          | inl k ↦ subst (λ (x : ReaderState). HoldsAnswers entries x) k.1 (holds_taken entries bytes (read.held reader r at) own long)
          | inr k ↦ read.held other q k.1
        ])
        read

    pub same_taken : IsSameFile f taken_file
    same_taken = same_file f taken_file refl refl refl refl refl refl T.grow grow_taken is.groups refl

    pub has_taken_by : (bytes : List ℕ) → length bytes ≡ w.wanted.read.length → HasTaken f reader bytes taken_file
    has_taken_by bytes long = record {
      right = file_taken;
      taken_is = ap waiting_in (get_set f.readers reader r' r at) ∙ T.waiting ∙ sym (ap (λ (o : Option ReaderState). drop 1 (waiting_in o)) at);
      copies_are = map_set (λ (q : ReaderState). copy_of q) f.readers reader r' r at (λ i. copy (T.server i) (T.share i));
      others = λ other not. ap waiting_in (get_other f.readers reader other r' not);
      asked = asks_no_more f taken_file keeps_taken still_taken;
      asked_up = λ other. asked_up_stays f taken_file other refl (λ now. now) (grows_taken other);
      reads = λ entries read answered. read_taken entries bytes read answered long;
      same = same_taken;
    }

-- the part is taken
pub has_taken : (f : FileState) (h' : HandoutState) (reader : ℕ) (r r' : ReaderState) (w : Waiting) (ws : List Waiting) (taken' bytes : List ℕ) → IsFile f → IsHeard f reader
    → slice_get f.readers reader ≡ Some r → r.waiting ≡ w ∷ ws → TakesPart f.handout r f.taken f.first f.end w.wanted.part w.position h' r' taken' → length bytes ≡ w.wanted.read.length
    → HasTaken f reader bytes (record f { handout = h'; taken = taken'; readers = slice_set f.readers reader r' })
has_taken f h' reader r r' w ws taken' bytes is heard at waits T long =
    subst (λ (h : HandoutState). HasTaken f reader bytes (record f { handout = h; taken = taken'; readers = slice_set f.readers reader r' })) (sym T.handout)
    (has_taken_by f h'.trees reader r r' w ws taken' is heard at waits
    (subst (λ (h : HandoutState). TakesPart f.handout r f.taken f.first f.end w.wanted.part w.position h r' taken') T.handout T) bytes long)

-- nothing is taken
pub same_still : (f : FileState) (h' : HandoutState) (reader : ℕ) (r r' : ReaderState) (taken' : List ℕ) → slice_get f.readers reader ≡ Some r → h' ≡ f.handout → r' ≡ r → taken' ≡ f.taken
    → record f { handout = h'; taken = taken'; readers = slice_set f.readers reader r' } ≡ f
same_still f h' reader r r' taken' at handout same taken =
    let readers : slice_set f.readers reader r' ≡ f.readers = ap (slice_set f.readers reader) same ∙ set_same f.readers reader r at in
    λ i. record f { handout = handout i; taken = taken i; readers = readers i }

-- what stands first in a list
pub front_is : (xs : List Waiting) (w : Waiting) → slice_get xs 0 ≡ Some w → (ws : List Waiting) × (xs ≡ w ∷ ws)
front_is [] w e = absurd cc
front_is (v ∷ vs) w e = let is : v ≡ w = cc in (vs, ap (λ (u : Waiting). u ∷ vs) is)
