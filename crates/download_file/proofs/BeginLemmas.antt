-- A reader that begins.
use Rattle.std.proofs.Common.{◌≡◌, ◌≢◌, ◌↔◌, ℕ, zero, suc, ◌+◌, ◌<◌, ◌≤◌, ◌⊎◌, inl, inr, All, Bool, true, false, List, [], ◌∷◌, ◌++◌, length, Some, refl, sym, ap, subst, ◌∙◌, arith}
use Rattle.std.specs.Prelude.{slice_get}
use Rattle.std.proofs.lemmas.Bool.{true≢false}
use Rattle.std.proofs.lemmas.List.{length-append, map-append}
use Rattle.std.proofs.lemmas.List.Elements.{All-contains, All-nil, All-push, All-weaker, Contains-push_cases}
use Rattle.std.proofs.lemmas.Option.{slice_get_within}
use Rattle.lemmas.proofs.Options.{one_there}
use Rattle.lemmas.proofs.Positions.{get_pushed}
use Rattle.share_layout.specs.Geometry.{Geometry}
use Rattle.download_parts.specs.declared.part.Part.{Part}
use Rattle.download_parts.specs.declared.part.Part.TheVariants.{CiphertextTree}
use Rattle.download_supply.specs.Asking.{IsAsked, IsReadOf}
use Rattle.download_supply.specs.Cursors.{LeadOn, cursor_at}
use Rattle.download_supply.specs.Supply.{IsSupply, SupplyState, first_of, gives_from, new_supply}
use Rattle.download_supply.specs.Upper.{UpperComeFirst}
use Rattle.download_segments.specs.Handout.{next_segment}
use Rattle.download_segments.proofs.TreeLemmas.{grow_none}
use Rattle.download_parts.proofs.TreeLemmas.{knows_itself}
use Rattle.download_file.specs.State.{FileState, IsHeard, IsLive, IsReader, ReaderState, copy, copy_of, copies, waiting_at, waiting_in, waiting_parts}
use Rattle.download_file.specs.Answers.{HoldsAnswers}
use Rattle.download_file.specs.Asked.{AsksNoMore}
use Rattle.download_file.specs.Changes.{IsSameFile, ReadersGoOn, StaysAskedUp, StaysRead}
use Rattle.download_file.specs.Right.{AreLive, GivesTree, IsFile, IsGroup, IsReaderOf, TellsRoot, WaitsByLevels}
use Rattle.download_file.specs.Steps.{Gives, IsBegun, giving}
use Rattle.download_file.specs.declared.reader.Waiting.{Waiting}
use Rattle.download_file.proofs.ListLemmas.{get_first}
use Rattle.download_file.proofs.GrowLemmas.{goes_same, group_stays, read_stays, same_file}
use Rattle.download_file.proofs.LiveLemmas.{distinct_push}
use Rattle.download_file.proofs.StateLemmas.{Follows, KeepsAsks, asked_up_stays, asks_itself, asks_no_more, cursor_none, giving_asks, grows_itself, new_asks_none, same_reader}

-- ---- the reader

none_before : (levels : List ℕ) (taken : List ℕ) (level : ℕ) → levels ≡ 0 ∷ 0 ∷ 0 ∷ [] → cursor_at levels level ≤ cursor_at taken level
none_before levels taken level is =
    let none = cursor_none level in
    let same = ap (λ (l : List ℕ). cursor_at l level) is in
    omega (arith, none, same)

pub begun_new : (g : Geometry) (start first end server share : ℕ) (gives : Bool) (taken : List ℕ) (r : ReaderState) → gives ≡ false → r.server ≡ server → r.share ≡ share
    → r.supply ≡ new_supply g start first end → r.waiting ≡ [] → IsSupply r.supply → IsBegun g start first end server share gives taken r
begun_new g start first end server share gives taken r not server_is share_is supply waiting right = record {
  server_is = server_is;
  share_is = share_is;
  waiting = waiting;
  right = right;
  geometry = ap (λ (s : SupplyState). s.geometry) supply;
  start_is = ap (λ (s : SupplyState). s.start) supply;
  first_is = ap (λ (s : SupplyState). s.first) supply;
  end_is = ap (λ (s : SupplyState). s.end) supply;
  asked = subst (λ (s : SupplyState). s.taken ≡ s.asked) (sym supply) refl;
  tree = ap (λ (s : SupplyState). s.tree) supply;
  held = ap (λ (s : SupplyState). s.held) supply;
  from = λ yes. absurd (true≢false (sym yes ∙ not));
  behind = λ level. none_before r.supply.taken.ciphertext_tree taken level (ap (λ (s : SupplyState). s.taken.ciphertext_tree) supply);
  none = λ part. subst (λ (s : SupplyState). ¬ IsAsked s part) (sym supply) (new_asks_none g start first end part);
}

pub begun_gives : (g : Geometry) (start first end server share : ℕ) (gives : Bool) (taken : List ℕ) (old r : ReaderState) → old.server ≡ server → old.share ≡ share
    → old.supply ≡ new_supply g start first end → old.waiting ≡ [] → Gives old taken r → IsSupply r.supply → IsBegun g start first end server share gives taken r
begun_gives g start first end server share gives taken old r server_is share_is supply waiting (inr k) right =
    absurd (k.0 (subst (λ (s : SupplyState). s.asked.ciphertext_tree ≡ s.given) (sym supply) refl))
begun_gives g start first end server share gives taken old r server_is share_is supply waiting (inl k) right =
    let is : r ≡ giving old taken = k.1 in
    let now : r.supply ≡ gives_from (new_supply g start first end) taken = ap (λ (q : ReaderState). q.supply) is ∙ ap (λ (s : SupplyState). gives_from s taken) supply in
    let pieces : r.supply.taken.ciphertext_tree ≡ taken = ap (λ (s : SupplyState). s.taken.ciphertext_tree) now in
    record {
      server_is = ap (λ (q : ReaderState). q.server) is ∙ server_is;
      share_is = ap (λ (q : ReaderState). q.share) is ∙ share_is;
      waiting = ap (λ (q : ReaderState). q.waiting) is ∙ waiting;
      right = right;
      geometry = ap (λ (s : SupplyState). s.geometry) now;
      start_is = ap (λ (s : SupplyState). s.start) now;
      first_is = ap (λ (s : SupplyState). s.first) now;
      end_is = ap (λ (s : SupplyState). s.end) now;
      asked = subst (λ (s : SupplyState). s.taken ≡ s.asked) (sym now) refl;
      tree = ap (λ (s : SupplyState). s.tree) now;
      held = ap (λ (s : SupplyState). s.held) now;
      from = λ yes. pieces;
      behind = λ level. let same = ap (λ (l : List ℕ). cursor_at l level) pieces in omega (arith, same);
      none = λ part is_asked. subst (λ (s : SupplyState). ¬ IsAsked s part) (sym supply) (new_asks_none g start first end part)
          ((giving_asks old.supply taken k.0 part).0 (subst (λ (q : ReaderState). IsAsked q.supply part) is is_asked));
    }

-- ---- lists

first_push : (xs : List ℕ) (y g : ℕ) → slice_get (xs ++ y ∷ []) 0 ≡ Some g → (slice_get xs 0 ≡ Some g) ⊎ ((xs ≡ []) × (g ≡ y))
first_push [] y g e = let k : y ≡ g = cc in inr (refl, sym k)
first_push (x ∷ xs) y g e = inl e

pub waiting_pushed : (xs : List ReaderState) (x : ReaderState) (i : ℕ) → x.waiting ≡ [] → waiting_in (slice_get (xs ++ x ∷ []) i) ≡ waiting_in (slice_get xs i)
waiting_pushed [] x zero e = e
waiting_pushed [] x (suc i) e = refl
waiting_pushed (q ∷ qs) x zero e = refl
waiting_pushed (q ∷ qs) x (suc i) e = waiting_pushed qs x i e

-- ---- the file

pub record HasBegun (f : FileState) (server share : ℕ) (g : FileState) : Type 0 where
  pub right : IsFile g
  pub copies_are : copies g ≡ copies f ++ copy server share ∷ []
  pub waiting : (reader : ℕ) → waiting_at g reader ≡ waiting_at f reader
  pub asked : AsksNoMore f g
  pub asked_up : (reader : ℕ) → IsLive f reader → StaysAskedUp f g reader
  pub reads : StaysRead f g
  pub same : IsSameFile f g

module _ (f : FileState) (server share next : ℕ) (x : ReaderState) (gives : Bool) (is : IsFile f) (next_is : next_segment f.handout ≡ Some next)
    (begun : IsBegun f.handout.geometry f.first next f.end server share gives f.taken x)
    (there : share < f.handout.geometry.total) (few : length f.live < f.handout.geometry.needed)
    (unread : (reader : ℕ) (r : ReaderState) → IsHeard f reader → IsReader f reader r → r.share ≢ share) where
  abbrev pub begun_file : FileState
  begun_file = record f { readers = f.readers ++ x ∷ []; live = f.live ++ length f.readers ∷ [] }

  follows : Follows f begun_file
  follows = record { geometry = refl; ueb = refl; first = refl; end = refl; shares = knows_itself f.handout.trees.shares; later = λ number at. (number, at, omega arith) }

  is_begun : IsReaderOf begun_file x
  is_begun = record {
    supply = begun.right;
    geometry = begun.geometry;
    start = begun.start_is;
    end = begun.end_is;
    begun = λ number at.
        let same : next ≡ number = one_there (next_segment f.handout) next number next_is at in
        let first = begun.first_is in
        omega (arith, same, first);
    share = let low = there in let same = begun.share_is in omega (arith, low, same);
    root = subst (TellsRoot f.handout.trees.shares x.share) (sym begun.tree) tt;
  }

  grow : ReadersGoOn f.readers (f.readers ++ x ∷ [])
  grow position r at = record { now = r; there = get_first f.readers (x ∷ []) r position at; server = refl; share = refl; supply = goes_same r.supply }

  below : (position : ℕ) → IsHeard f position → position < length f.readers
  below position (inl among) = All-contains (λ p. p < length f.readers) f.live position is.live.there among
  below position (inr among) = All-contains (λ p. p < length f.readers) f.aside position is.live.asides among

  -- which of them it is
  which : (position : ℕ) (r : ReaderState) → slice_get (f.readers ++ x ∷ []) position ≡ Some r → (slice_get f.readers position ≡ Some r) ⊎ ((position ≡ length f.readers) × (x ≡ r))
  which position r at = get_pushed f.readers x r position at

  which_live : (position : ℕ) → IsHeard begun_file position → IsHeard f position ⊎ (length f.readers ≡ position)
  which_live position (inr among) = inl (inr among)
  which_live position (inl among) = elim (Contains-push_cases f.live (length f.readers) position among) [ inl was ↦ inl (inl was) | inr new ↦ inr new ]

  -- one that was there is none that is new
  old_there : (position : ℕ) (r : ReaderState) → slice_get f.readers position ≡ Some r → position < length f.readers
  old_there position r at = slice_get_within f.readers position r at

  shares_differ : (i j : ℕ) (r s : ReaderState) → IsHeard begun_file i → IsHeard begun_file j → i ≢ j → IsReader begun_file i r → IsReader begun_file j s → r.share ≢ s.share
  shares_differ i j r s one two other at_one at_two same = elim (which i r at_one) [
    | inr new ↦ elim (which j s at_two) [
      | inr also ↦ other (new.0 ∙ sym also.0)
      | inl was ↦ elim (which_live j two) [
        | inl old ↦ unread j s old was (sym same ∙ sym (ap (λ (q : ReaderState). q.share) new.1) ∙ begun.share_is)
        | inr last ↦ let low = old_there j s was in omega (arith, last, low)
      ]
    ]
    | inl was ↦ elim (which_live i one) [
      | inr last ↦ let low = old_there i r was in omega (arith, last, low)
      | inl first ↦ elim (which j s at_two) [
        | inl also ↦ elim (which_live j two) [
          | inl second ↦ is.live.different i j r s first second other was also same
          | inr last ↦ let low = old_there j s also in omega (arith, last, low)
        ]
        | inr new ↦ unread i r first was (same ∙ sym (ap (λ (q : ReaderState). q.share) new.1) ∙ begun.share_is)
      ]
    ]
  ]

  live_begun : AreLive begun_file
  live_begun =
      let long : length (f.readers ++ x ∷ []) ≡ length f.readers + 1 = length-append f.readers (x ∷ []) in
      let count : length (f.live ++ length f.readers ∷ []) ≡ length f.live + 1 = length-append f.live (length f.readers ∷ []) in
      record {
        once = distinct_push f.live (length f.readers) is.live.once (λ h. let low = below (length f.readers) (inl h) in omega (arith, low));
        apart = λ position among put. elim (Contains-push_cases f.live (length f.readers) position among) [
          | inl was ↦ is.live.apart position was put
          | inr last ↦ let low = below position (inr put) in omega (arith, low, last)
        ];
        there = All-push (λ position. position < length (f.readers ++ x ∷ [])) f.live (length f.readers)
            (All-weaker (λ position. position < length f.readers) (λ position. position < length (f.readers ++ x ∷ [])) (λ position low. omega (arith, low, long)) f.live is.live.there)
            (omega (arith, long));
        asides = All-weaker (λ position. position < length f.readers) (λ position. position < length (f.readers ++ x ∷ [])) (λ position low. omega (arith, low, long)) f.aside is.live.asides;
        few = let low = few in omega (arith, low, count);
        different = shares_differ;
        waits = λ position r among at. elim (which position r at) [
          | inl old ↦ elim (which_live position among) [
            | inl was ↦ is.live.waits position r was old
            | inr last ↦ absurd (let low = old_there position r old in omega (arith, last, low))
          ]
          | inr new ↦ subst (λ (q : ReaderState). LeadOn q.supply.taken (waiting_parts q.waiting) q.supply.asked) new.1
              (subst (λ (l : List Waiting). LeadOn x.supply.taken (waiting_parts l) x.supply.asked) (sym begun.waiting) begun.asked)
        ];
        upper = λ position r among at. elim (which position r at) [
          | inl old ↦ elim (which_live position among) [
            | inl was ↦ is.live.upper position r was old
            | inr last ↦ absurd (let low = old_there position r old in omega (arith, last, low))
          ]
          | inr new ↦ subst WaitsByLevels new.1
              (subst (λ (l : List Waiting). UpperComeFirst x.supply.geometry (first_of x.supply) x.supply.taken (waiting_parts l)) (sym begun.waiting) tt)
        ];
        reads = λ position r among at. elim (which position r at) [
          | inl old ↦ elim (which_live position among) [
            | inl was ↦ is.live.reads position r was old
            | inr last ↦ absurd (let low = old_there position r old in omega (arith, last, low))
          ]
          | inr new ↦ subst (λ (q : ReaderState). All (λ v. IsReadOf q.supply v.wanted) q.waiting) new.1
              (subst (λ (l : List Waiting). All (λ v. IsReadOf x.supply v.wanted) l) (sym begun.waiting) (All-nil (λ v. IsReadOf x.supply v.wanted)))
        ];
      }

  gives_begun : GivesTree begun_file
  gives_begun = record {
    levels = is.ciphertext.levels;
    pieces = is.ciphertext.pieces;
    known = is.ciphertext.known;
    behind = λ position level r among at. elim (which position r at) [
      | inl old ↦ elim (which_live position among) [
        | inl was ↦ is.ciphertext.behind position level r was old
        | inr last ↦ absurd (let low = old_there position r old in omega (arith, last, low))
      ]
      | inr new ↦ subst (λ (q : ReaderState). cursor_at q.supply.taken.ciphertext_tree level ≤ cursor_at f.taken level) new.1 (begun.behind level)
    ];
  }

  pub file_begun : IsFile begun_file
  file_begun = record {
    handout = is.handout;
    range = is.range;
    last = is.last;
    next = is.next;
    readers = λ position r at. elim (which position r at) [
      | inl old ↦ same_reader f begun_file r follows (is.readers position r old)
      | inr new ↦ subst (IsReaderOf begun_file) new.1 is_begun
    ];
    live = live_begun;
    ciphertext = gives_begun;
    groups = All-weaker (IsGroup f.handout f.readers) (IsGroup f.handout (f.readers ++ x ∷ []))
        (λ group own. group_stays f.handout f.handout f.readers (f.readers ++ x ∷ []) group refl grow own) f.groups is.groups;
    in_order = is.in_order;
  }

  pub asks_begun : AsksNoMore f begun_file
  asks_begun = asks_no_more f begun_file keeps (λ position r at. (r, get_first f.readers (x ∷ []) r position at, asks_itself r.supply))
    where
      keeps : KeepsAsks f.readers (f.readers ++ x ∷ [])
      keeps position r at = elim (which position r at) [
        | inl old ↦ inl (r, old, asks_itself r.supply)
        | inr new ↦ inr (λ part asked. begun.none part (subst (λ (q : ReaderState). IsAsked q.supply part) (sym new.1) asked))
      ]

  pub asked_up_begun : (reader : ℕ) → IsLive f reader → StaysAskedUp f begun_file reader
  asked_up_begun reader live = asked_up_stays f begun_file reader refl
      (λ first. elim (first_push f.live (length f.readers) reader first) [
        | inl was ↦ was
        | inr alone ↦ absurd (let low = below reader (inl live) in let last = alone.1 in omega (arith, low, last))
      ])
      (λ r at. elim (which reader r at) [
        | inl old ↦ (r, old, grows_itself r.supply)
        | inr new ↦ absurd (let low = below reader (inl live) in let is_new = new.0 in omega (arith, low, is_new))
      ])

  pub read_begun : StaysRead f begun_file
  read_begun entries read = read_stays entries f begun_file refl refl refl (grow_none f.handout.trees) grow is.groups refl (λ p among. among)
      (λ position r at. elim (which position r at) [
        | inl old ↦ read.held position r old
        | inr new ↦ subst (λ (q : ReaderState). HoldsAnswers entries q) new.1 none_held
      ])
      read
    where
      none_held : HoldsAnswers entries x
      none_held k low = absurd (let e = ap length begun.held in omega (arith, low, e))

  pub same_begun : IsSameFile f begun_file
  same_begun = same_file f begun_file refl refl refl refl refl refl (grow_none f.handout.trees) grow is.groups refl

  pub copies_begun : copies begun_file ≡ copies f ++ copy server share ∷ []
  copies_begun = map-append (λ (q : ReaderState). copy_of q) f.readers (x ∷ []) ∙ (λ i. copies f ++ copy (begun.server_is i) (begun.share_is i) ∷ [])

  pub waiting_begun : (reader : ℕ) → waiting_at begun_file reader ≡ waiting_at f reader
  waiting_begun reader = waiting_pushed f.readers x reader begun.waiting

  -- what holds of the file then
  pub has_begun : HasBegun f server share begun_file
  has_begun = record {
    right = file_begun;
    copies_are = copies_begun;
    waiting = waiting_begun;
    asked = asks_begun;
    asked_up = asked_up_begun;
    reads = read_begun;
    same = same_begun;
  }
