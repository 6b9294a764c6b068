-- A file of which a reader ends, is put aside, or is read again.
use Rattle.std.proofs.Common.{◌≡◌, ◌≢◌, ℕ, ◌+◌, ◌<◌, ◌≤◌, ◌⊎◌, inl, inr, Contains, List, [], ◌∷◌, ◌++◌, length, Some, refl, sym, ap, subst, ◌∙◌, arith}
use Rattle.std.specs.Prelude.{slice_get, slice_set}
use Rattle.std.proofs.lemmas.List.{append-nil, length-append, length-set}
use Rattle.std.proofs.lemmas.List.Elements.{All-weaker, Contains-append_right, Contains-push_cases}
use Rattle.lemmas.proofs.Members.{contains_head, contains_none}
use Rattle.lemmas.proofs.Options.{one_there}
use Rattle.lemmas.proofs.Positions.{get_set, get_other, set_cases}
use Rattle.share_layout.specs.Geometry.{Geometry}
use Rattle.download_parts.specs.Plan.{IsNodePiece}
use Rattle.download_supply.specs.Asking.{OnlyAsks}
use Rattle.download_supply.specs.Supply.{IsSupply, SupplyState}
use Rattle.download_segments.proofs.TreeLemmas.{grow_none}
use Rattle.download_parts.proofs.TreeLemmas.{knows_itself}
use Rattle.download_file.specs.State.{FileState, IsAside, IsHeard, IsLive, IsReader, ReaderState, copy, copy_of, giver, copies, waiting_at, waiting_in, without}
use Rattle.download_file.specs.Answers.{HoldsAnswers, HoldsFor}
use Rattle.download_file.specs.Asked.{AsksNoMore, IsAskedUp}
use Rattle.download_file.specs.Changes.{GoesOn, IsSameFile, OthersWait, ReadersGoOn, StaysAskedUp, StaysRead}
use Rattle.download_file.specs.Right.{AreDistinct, AreLive, IsFile, IsGroup, IsReaderOf, TellsRoot}
use Rattle.download_file.specs.Steps.{CanGive, EndsReader, Leaves, Resumes, stopped}
use Rattle.download_file.proofs.ListLemmas.{get_cases, map_set, set_again, set_same}
use Rattle.download_file.proofs.GrowLemmas.{goes_same, group_stays, holds_as, read_stays, reader_there, same_file, same_two, tree_same}
use Rattle.download_file.proofs.LiveLemmas.{distinct_push, distinct_without, first_live, first_was, from_without, length-without}
use Rattle.download_file.proofs.PatienceLemmas.{asks_two}
use Rattle.download_file.proofs.StateLemmas.{Follows, SameAsks, asked_up_stays, asks_itself, asks_no_more, grows_itself, heard_there, reader_stays, same_reader}
use Rattle.download_file.proofs.MoveLemmas.{HasMoved, asked_up_listed, moved_first, moved_listed, moved_none, moved_two}

-- ---- a reader that is not heard ends, perhaps after more was asked of it in vain

-- what holds of a file after a reader ended
pub record HasEnded (f : FileState) (reader : ℕ) (s t : SupplyState) (g : FileState) : Type 0 where
  pub right : IsFile g
  pub same_copies : copies g ≡ copies f
  pub none : waiting_at g reader ≡ []
  pub others : OthersWait f reader g
  pub asked : SameAsks s t → AsksNoMore f g
  pub reads : StaysRead f g
  pub same : IsSameFile f g

module _ (f : FileState) (reader : ℕ) (r r1 : ReaderState) (is : IsFile f) (gone : ¬ IsHeard f reader) (at : slice_get f.readers reader ≡ Some r)
    (server : r1.server ≡ r.server) (share : r1.share ≡ r.share) (only : OnlyAsks r.supply r1.supply) (right : IsSupply r1.supply) where
  abbrev pub stopped_file : FileState
  stopped_file = record f { readers = slice_set f.readers reader (stopped r1) }

  follows : Follows f stopped_file
  follows = record { geometry = refl; ueb = refl; first = refl; end = refl; shares = knows_itself f.handout.trees.shares; later = λ number next. (number, next, omega arith) }

  goes : GoesOn r.supply r1.supply
  goes = record {
    geometry = ap (λ (s : SupplyState). s.geometry) only;
    start = ap (λ (s : SupplyState). s.start) only;
    first = ap (λ (s : SupplyState). s.first) only;
    end = ap (λ (s : SupplyState). s.end) only;
    tree = tree_same r.supply.tree r1.supply.tree (ap (λ (s : SupplyState). s.tree) only);
    more = [];
    held = ap (λ (s : SupplyState). s.held) only ∙ sym (append-nil r.supply.held);
  }

  is_stopped : IsReaderOf stopped_file (stopped r1)
  is_stopped = reader_stays f stopped_file r (stopped r1) follows (is.readers reader r at) share right goes.geometry goes.start goes.first goes.end
      (subst (λ (s : SupplyState). TellsRoot f.handout.trees.shares r.share s.tree) (sym only) (is.readers reader r at).root)

  grow_stopped : ReadersGoOn f.readers (slice_set f.readers reader (stopped r1))
  grow_stopped position q there = elim (get_cases f.readers reader position (stopped r1) r q at there) [
    | inl k ↦ record {
      now = stopped r1;
      there = k.2;
      server = server ∙ ap (λ (x : ReaderState). x.server) k.1;
      share = share ∙ ap (λ (x : ReaderState). x.share) k.1;
      supply = subst (λ (x : ReaderState). GoesOn x.supply r1.supply) k.1 goes;
    }
    | inr k ↦ record { now = q; there = k.1; server = refl; share = refl; supply = goes_same q.supply }
  ]

  -- the readers that are heard are as they were
  left : (position : ℕ) (q : ReaderState) → IsHeard f position → IsReader stopped_file position q → IsReader f position q
  left position q among there = elim (set_cases f.readers reader position (stopped r1) q there) [
    | inl k ↦ absurd (gone (subst (IsHeard f) k.0 among))
    | inr k ↦ k.1
  ]

  live_stopped : AreLive stopped_file
  live_stopped =
      let long : length (slice_set f.readers reader (stopped r1)) ≡ length f.readers = length-set f.readers reader (stopped r1) in
      record {
        once = is.live.once;
        apart = is.live.apart;
        there = All-weaker (λ p. p < length f.readers) (λ p. p < length (slice_set f.readers reader (stopped r1))) (λ p low. omega (arith, low, long)) f.live is.live.there;
        asides = All-weaker (λ p. p < length f.readers) (λ p. p < length (slice_set f.readers reader (stopped r1))) (λ p low. omega (arith, low, long)) f.aside is.live.asides;
        few = is.live.few;
        different = λ i j x y one two other at_one at_two. is.live.different i j x y one two other (left i x one at_one) (left j y two at_two);
        waits = λ position q among there. is.live.waits position q among (left position q among there);
        upper = λ position q among there. is.live.upper position q among (left position q among there);
        reads = λ position q among there. is.live.reads position q among (left position q among there);
      }

  file_stopped : IsFile stopped_file
  file_stopped = record {
    handout = is.handout;
    range = is.range;
    last = is.last;
    next = is.next;
    readers = λ position q there. elim (set_cases f.readers reader position (stopped r1) q there) [
      | inl k ↦ subst (IsReaderOf stopped_file) k.1 is_stopped
      | inr k ↦ same_reader f stopped_file q follows (is.readers position q k.1)
    ];
    live = live_stopped;
    ciphertext = record {
      levels = is.ciphertext.levels;
      pieces = is.ciphertext.pieces;
      known = is.ciphertext.known;
      behind = λ position level q among there. is.ciphertext.behind position level q among (left position q among there);
    };
    groups = All-weaker (IsGroup f.handout f.readers) (IsGroup f.handout (slice_set f.readers reader (stopped r1)))
        (λ group own. group_stays f.handout f.handout f.readers (slice_set f.readers reader (stopped r1)) group refl grow_stopped own) f.groups is.groups;
    in_order = is.in_order;
  }

  read_stopped : StaysRead f stopped_file
  read_stopped entries read = read_stays entries f stopped_file refl refl refl (grow_none f.handout.trees) grow_stopped is.groups refl (λ p among. among)
      (λ position q there. elim (set_cases f.readers reader position (stopped r1) q there) [
        | inl k ↦ subst (λ (x : ReaderState). HoldsAnswers entries x) k.1 (subst (HoldsFor entries r1.server r1.share) (sym only) (holds_as entries r.server r.share r1.server r1.share r.supply server share (read.held reader r at)))
        | inr k ↦ read.held position q k.1
      ])
      read

  pub asked_up_stopped : (other : ℕ) → other ≢ reader → StaysAskedUp f stopped_file other
  asked_up_stopped other not = asked_up_stays f stopped_file other refl (λ now. now)
      (λ q there. (q, sym (get_other f.readers reader other (stopped r1) not) ∙ there, grows_itself q.supply))

  -- nothing was asked in vain
  asks_stopped : SameAsks r.supply r1.supply → AsksNoMore f stopped_file
  asks_stopped same = asks_no_more f stopped_file
      (λ position q there. elim (set_cases f.readers reader position (stopped r1) q there) [
        | inl k ↦ inl (r, ap (slice_get f.readers) k.0 ∙ at, subst (λ (x : ReaderState). SameAsks r.supply x.supply) k.1 same)
        | inr k ↦ inl (q, k.1, asks_itself q.supply)
      ])
      (λ position q there. elim (get_cases f.readers reader position (stopped r1) r q at there) [
        | inl k ↦ (stopped r1, k.2, subst (λ (x : ReaderState). SameAsks x.supply r1.supply) k.1 same)
        | inr k ↦ (q, k.1, asks_itself q.supply)
      ])

  pub has_stopped : HasEnded f reader r.supply r1.supply stopped_file
  has_stopped = record {
    right = file_stopped;
    same_copies = map_set (λ (q : ReaderState). copy_of q) f.readers reader (stopped r1) r at (λ i. copy (server i) (share i));
    none = ap waiting_in (get_set f.readers reader (stopped r1) r at);
    others = λ other not. ap waiting_in (get_other f.readers reader other (stopped r1) not);
    asked = asks_stopped;
    reads = read_stopped;
    same = same_file f stopped_file refl refl refl refl refl refl (grow_none f.handout.trees) grow_stopped is.groups refl;
  }

-- other readers are listed before, and one gives the ciphertext tree then
pub ended_two : (f g h k : FileState) (reader : ℕ) (s t : SupplyState) → HasMoved f g → HasEnded g reader s t h → HasMoved h k → HasEnded f reader s t k
ended_two f g h k reader s t before ends behind = record {
  right = behind.right;
  same_copies = behind.same_copies ∙ ends.same_copies ∙ before.same_copies;
  none = behind.waiting reader ∙ ends.none;
  others = λ other not. behind.waiting other ∙ ends.others other not ∙ before.waiting other;
  asked = λ same. asks_two f g k before.asked (asks_two g h k (ends.asked same) behind.asked);
  reads = λ entries read. behind.reads entries (ends.reads entries (before.reads entries read));
  same = same_two f g k before.same (same_two g h k ends.same behind.same);
}

-- ---- a reader is not read any more

-- where it gave the ciphertext tree, the first that is left gives it
pub moved_leaves : (f : FileState) (live : List ℕ) (reader : ℕ) (rs : List ReaderState) → IsFile f → ((next : ℕ) → Contains (without reader live) next → IsHeard f next)
    → Leaves f.readers live f.taken reader rs → HasMoved f (record f { readers = rs })
moved_leaves f live reader rs is heard (inl k) = subst (λ (l : List ReaderState). HasMoved f (record f { readers = l })) (sym k.1) (moved_none f is)
moved_leaves f live reader rs is heard (inr k) =
    moved_first f (without reader live) rs is (λ next first. heard next (first_live (without reader live) next first)) k.1

abbrev pub AreAskedUpBut : FileState → FileState → ℕ → Type 0
AreAskedUpBut f g reader = giver f ≢ Some reader → (other : ℕ) → other ≢ reader → StaysAskedUp f g other

-- it gave none
leaves_same : (old : List ReaderState) (live taken : List ℕ) (reader : ℕ) (rs : List ReaderState) → slice_get live 0 ≢ Some reader → Leaves old live taken reader rs → rs ≡ old
leaves_same old live taken reader rs other (inl k) = k.1
leaves_same old live taken reader rs other (inr k) = absurd (other k.0)

module _ (f : FileState) (reader : ℕ) (is : IsFile f) where
  -- ---- it is put aside

  live_left : (position : ℕ) → Contains (without reader f.live) position → IsLive f position
  live_left position among = (from_without reader position f.live among).0

  put_back : IsLive f reader → (position : ℕ) → (Contains (without reader f.live) position ⊎ Contains (f.aside ++ reader ∷ []) position) → IsHeard f position
  put_back live position (inl among) = inl (live_left position among)
  put_back live position (inr among) = elim (Contains-push_cases f.aside reader position among) [
    | inl was ↦ inr was
    | inr same ↦ inl (subst (λ (n : ℕ). Contains f.live n) same live)
  ]

  put_apart : (position : ℕ) → Contains (without reader f.live) position → ¬ Contains (f.aside ++ reader ∷ []) position
  put_apart position among put = elim (Contains-push_cases f.aside reader position put) [
    | inl was ↦ is.live.apart position (live_left position among) was
    | inr same ↦ (from_without reader position f.live among).1 (sym same)
  ]

  less_left : length (without reader f.live) ≤ f.handout.geometry.needed
  less_left = let few = is.live.few in let less = length-without reader f.live in omega (arith, few, less)

  abbrev pub put_file : List ReaderState → FileState
  put_file rs = record f { readers = rs; live = without reader f.live; aside = f.aside ++ reader ∷ [] }

  pub has_put : (rs : List ReaderState) → IsLive f reader → Leaves f.readers f.live f.taken reader rs → HasMoved f (put_file rs)
  has_put rs live leaves =
      let once = distinct_without reader f.live is.live.once in
      let back = put_back live in
      let listed = moved_listed f (without reader f.live) (f.aside ++ reader ∷ []) is once put_apart less_left back in
      moved_two f (put_file f.readers) (put_file rs) listed
      (moved_leaves (put_file f.readers) f.live reader rs listed.right (λ next among. inl among) leaves)

  pub put_asked_up : (rs : List ReaderState) → IsLive f reader → Leaves f.readers f.live f.taken reader rs → giver f ≢ Some reader → (other : ℕ) → StaysAskedUp f (put_file rs) other
  put_asked_up rs live leaves other_gives other =
      let once = distinct_without reader f.live is.live.once in
      subst (λ (l : List ReaderState). StaysAskedUp f (put_file l) other) (sym (leaves_same f.readers f.live f.taken reader rs other_gives leaves))
      (asked_up_listed f (without reader f.live) (f.aside ++ reader ∷ []) is once put_apart less_left (put_back live) other (λ first. first_was reader other f.live first other_gives))

  -- ---- it is read again

  resumed_back : IsAside f reader → (position : ℕ) → (Contains (f.live ++ reader ∷ []) position ⊎ Contains (without reader f.aside) position) → IsHeard f position
  resumed_back aside position (inr among) = inr (from_without reader position f.aside among).0
  resumed_back aside position (inl among) = elim (Contains-push_cases f.live reader position among) [
    | inl was ↦ inl was
    | inr same ↦ inr (subst (λ (n : ℕ). Contains f.aside n) same aside)
  ]

  resumed_apart : IsAside f reader → (position : ℕ) → Contains (f.live ++ reader ∷ []) position → ¬ Contains (without reader f.aside) position
  resumed_apart aside position among put =
      let k = from_without reader position f.aside put in
      elim (Contains-push_cases f.live reader position among) [
        | inl was ↦ is.live.apart position was k.0
        | inr same ↦ k.1 (sym same)
      ]

  resumed_once : IsAside f reader → AreDistinct (f.live ++ reader ∷ [])
  resumed_once aside = distinct_push f.live reader is.live.once (λ live. is.live.apart reader live aside)

  resumed_few : length f.live < f.handout.geometry.needed → length (f.live ++ reader ∷ []) ≤ f.handout.geometry.needed
  resumed_few few = let count = length-append f.live (reader ∷ []) in omega (arith, few, count)

  abbrev pub resumed_file : List ReaderState → FileState
  resumed_file rs = record f { readers = rs; live = f.live ++ reader ∷ []; aside = without reader f.aside }

  first_pushed : (xs : List ℕ) (g : ℕ) → (xs ≡ [] → ⊥) → slice_get (xs ++ reader ∷ []) 0 ≡ Some g → slice_get xs 0 ≡ Some g
  first_pushed [] g some e = absurd (some refl)
  first_pushed (x ∷ xs) g some e = e

  pub has_resumed : (rs : List ReaderState) → IsAside f reader → length f.live < f.handout.geometry.needed → Resumes f.readers f.live f.taken reader rs → HasMoved f (resumed_file rs)
  has_resumed rs aside few resumes =
      let listed = moved_listed f (f.live ++ reader ∷ []) (without reader f.aside) is (resumed_once aside) (resumed_apart aside) (resumed_few few) (resumed_back aside) in
      elim resumes [
        | inl k ↦ subst (λ (l : List ReaderState). HasMoved f (resumed_file l)) (sym k.1) listed
        | inr k ↦ moved_two f (resumed_file f.readers) (resumed_file rs) listed
            (moved_first (resumed_file f.readers) (reader ∷ []) rs listed.right
            (λ next first. inl (subst (λ (n : ℕ). Contains (f.live ++ reader ∷ []) n) (let same : reader ≡ next = cc in same) (pushed_in f.live))) k.1)
      ]
    where
      pushed_in : (xs : List ℕ) → Contains (xs ++ reader ∷ []) reader
      pushed_in xs = Contains-append_right xs (reader ∷ []) reader (contains_head reader [])

  pub resumed_asked_up : (rs : List ReaderState) → IsAside f reader → length f.live < f.handout.geometry.needed → Resumes f.readers f.live f.taken reader rs → (other : ℕ) → IsLive f other
      → StaysAskedUp f (resumed_file rs) other
  resumed_asked_up rs aside few (inl k) other live =
      subst (λ (l : List ReaderState). StaysAskedUp f (resumed_file l) other) (sym k.1)
      (asked_up_listed f (f.live ++ reader ∷ []) (without reader f.aside) is (resumed_once aside) (resumed_apart aside) (resumed_few few) (resumed_back aside) other
      (λ first. first_pushed f.live other k.0 first))
  resumed_asked_up rs aside few (inr k) other live = absurd (contains_none other (subst (λ (l : List ℕ). Contains l other) k.0 live))

  -- ---- it ends, perhaps after more was asked of it in vain

  abbrev pub ended_file : List ReaderState → FileState
  ended_file rs = record f { readers = rs; live = without reader f.live; aside = without reader f.aside }

  module _ (r r1 : ReaderState) (rs : List ReaderState) (at : slice_get f.readers reader ≡ Some r) (server : r1.server ≡ r.server) (share : r1.share ≡ r.share)
      (only : OnlyAsks r.supply r1.supply) (right : IsSupply r1.supply) (ends : EndsReader (slice_set f.readers reader r1) f.live f.taken reader rs) where
    ended_back : (position : ℕ) → (Contains (without reader f.live) position ⊎ Contains (without reader f.aside) position) → IsHeard f position
    ended_back position (inl among) = inl (live_left position among)
    ended_back position (inr among) = inr (from_without reader position f.aside among).0

    ended_apart : (position : ℕ) → Contains (without reader f.live) position → ¬ Contains (without reader f.aside) position
    ended_apart position among put = is.live.apart position (live_left position among) (from_without reader position f.aside put).0

    listed : HasMoved f (ended_file f.readers)
    listed = moved_listed f (without reader f.live) (without reader f.aside) is (distinct_without reader f.live is.live.once) ended_apart less_left ended_back

    not_heard : ¬ IsHeard (ended_file f.readers) reader
    not_heard (inl among) = (from_without reader reader f.live among).1 refl
    not_heard (inr among) = (from_without reader reader f.aside among).1 refl

    halted : HasEnded (ended_file f.readers) reader r.supply r1.supply (ended_file (slice_set f.readers reader (stopped r1)))
    halted = has_stopped (ended_file f.readers) reader r r1 listed.right not_heard at server share only right

    -- the readers where nothing waits of it
    list : slice_set (slice_set f.readers reader r1) reader (stopped ends.r) ≡ slice_set f.readers reader (stopped r1)
    list =
        let one : ends.r ≡ r1 = one_there (slice_get (slice_set f.readers reader r1) reader) ends.r r1 ends.there (get_set f.readers reader r1 r at) in
        ap (λ (x : ReaderState). slice_set (slice_set f.readers reader r1) reader (stopped x)) one ∙ set_again f.readers reader r1 (stopped r1)

    leaves : Leaves (slice_set f.readers reader (stopped r1)) f.live f.taken reader rs
    leaves = subst (λ (l : List ReaderState). Leaves l f.live f.taken reader rs) list ends.leaves

    pub has_ended : HasEnded f reader r.supply r1.supply (ended_file rs)
    has_ended = ended_two f (ended_file f.readers) (ended_file (slice_set f.readers reader (stopped r1))) (ended_file rs) reader r.supply r1.supply listed halted
        (moved_leaves (ended_file (slice_set f.readers reader (stopped r1))) f.live reader rs halted.right (λ next among. inl among) leaves)

    pub ended_asked_up : AreAskedUpBut f (ended_file rs) reader
    ended_asked_up other_gives other not up =
        subst (λ (l : List ReaderState). IsAskedUp (ended_file l) other) (sym (leaves_same (slice_set f.readers reader (stopped r1)) f.live f.taken reader rs other_gives leaves))
        (asked_up_stopped (ended_file f.readers) reader r r1 listed.right not_heard at server share only right other not
        (asked_up_listed f (without reader f.live) (without reader f.aside) is (distinct_without reader f.live is.live.once) ended_apart less_left ended_back other
        (λ first. first_was reader other f.live first other_gives) up))

-- ---- readers that can give it

pub can_give : (f : FileState) (position : ℕ) (s : ReaderState) → IsFile f → slice_get f.readers position ≡ Some s → CanGive s f.taken
can_give f position s is at =
    let own = is.readers position s at in
    λ p low.
    subst (λ (g : Geometry). IsNodePiece g s.supply.start s.supply.end p) (sym own.geometry)
    (subst (λ (n : ℕ). IsNodePiece f.handout.geometry n s.supply.end p) (sym own.start)
    (subst (λ (n : ℕ). IsNodePiece f.handout.geometry f.first n p) (sym own.end) (is.ciphertext.pieces p low)))

-- ---- the reader at a position ends as it is

module _ (f : FileState) (reader : ℕ) (rs : List ReaderState) (is : IsFile f) (heard : IsHeard f reader) (ends : EndsReader f.readers f.live f.taken reader rs) where
  there : (r : ReaderState) × (slice_get f.readers reader ≡ Some r)
  there = reader_there f.readers reader (heard_there f reader is heard)

  abbrev it : ReaderState
  it = there.0

  same_ends : EndsReader (slice_set f.readers reader it) f.live f.taken reader rs
  same_ends = subst (λ (l : List ReaderState). EndsReader l f.live f.taken reader rs) (sym (set_same f.readers reader it there.1)) ends

  pub ended_itself : (r : ReaderState) × HasEnded f reader r.supply r.supply (ended_file f reader is rs)
  ended_itself = (it, has_ended f reader is it it rs there.1 refl refl refl (is.readers reader it there.1).supply same_ends)

  pub itself_asked_up : AreAskedUpBut f (ended_file f reader is rs) reader
  itself_asked_up = ended_asked_up f reader is it it rs there.1 refl refl refl (is.readers reader it there.1).supply same_ends
