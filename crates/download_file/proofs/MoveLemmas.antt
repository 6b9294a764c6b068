-- A file of which other readers are listed, and one gives the ciphertext tree from now on.
use Rattle.std.proofs.Common.{◌≡◌, ℕ, ◌<◌, ◌≤◌, ◌⊎◌, inl, inr, All, Contains, List, [], length, Some, refl, sym, ap, subst, ◌∙◌, arith}
use Rattle.std.specs.Prelude.{slice_get, slice_set}
use Rattle.std.proofs.lemmas.List.{append-nil, length-set}
use Rattle.std.proofs.lemmas.List.Elements.{All-weaker}
use Rattle.lemmas.proofs.Positions.{set_cases}
use Rattle.share_layout.specs.Geometry.{Geometry}
use Rattle.download_parts.specs.Plan.{IsNodePiece}
use Rattle.download_parts.specs.declared.part.NodePiece.{NodePiece}
use Rattle.download_supply.specs.Asking.{IsReadOf}
use Rattle.download_supply.specs.Cursors.{LeadOn, cursor_at}
use Rattle.download_supply.specs.Supply.{gives_from}
use Rattle.download_supply.proofs.LawLemmas.{lead_giving}
use Rattle.download_supply.proofs.UpperLemmas.{upper_giving}
use Rattle.download_supply.proofs.SupplyLemmas.{gives_supply}
use Rattle.download_segments.proofs.TreeLemmas.{grow_none}
use Rattle.download_parts.proofs.TreeLemmas.{knows_itself}
use Rattle.download_file.specs.State.{FileState, IsHeard, IsReader, ReaderState, copy_of, giver, copies, waiting_at, waiting_parts}
use Rattle.download_file.specs.Answers.{HoldsAnswers}
use Rattle.download_file.specs.Asked.{AsksNoMore}
use Rattle.download_file.specs.Changes.{GoesOn, IsSameFile, ReadersGoOn, StaysAskedUp, StaysRead}
use Rattle.download_file.specs.Right.{AreDistinct, AreLive, IsFile, IsGroup, IsReaderOf, WaitsByLevels}
use Rattle.download_file.specs.Steps.{GaveNone, GivesFirst, giving}
use Rattle.download_file.proofs.ListLemmas.{All-from_contains, get_cases, map_set, set_same, waiting_set}
use Rattle.download_file.proofs.GrowLemmas.{goes_same, grow_same, group_stays, read_stays, same_file, same_itself, same_two, tree_same}
use Rattle.download_file.proofs.PatienceLemmas.{asks_two}
use Rattle.download_file.proofs.StateLemmas.{Follows, SameAsks, asked_up_stays, asks_itself, asks_no_more, gave_none, giving_asks, grows_itself, heard_there, reader_stays, same_reader}

-- what holds of a file of which nothing is asked, taken or let go
pub record HasMoved (f g : FileState) : Type 0 where
  pub right : IsFile g
  pub same_copies : copies g ≡ copies f
  pub waiting : (other : ℕ) → waiting_at g other ≡ waiting_at f other
  pub asked : AsksNoMore f g
  pub reads : StaysRead f g
  pub same : IsSameFile f g

pub moved_none : (f : FileState) → IsFile f → HasMoved f f
moved_none f is = record {
  right = is;
  same_copies = refl;
  waiting = λ other. refl;
  asked = λ reader offset len. ((λ h. h), (λ h. h));
  reads = λ entries read. read;
  same = same_itself f;
}

pub moved_two : (f g h : FileState) → HasMoved f g → HasMoved g h → HasMoved f h
moved_two f g h a b = record {
  right = b.right;
  same_copies = b.same_copies ∙ a.same_copies;
  waiting = λ other. b.waiting other ∙ a.waiting other;
  asked = asks_two f g h a.asked b.asked;
  reads = λ entries read. b.reads entries (a.reads entries read);
  same = same_two f g h a.same b.same;
}

-- ---- other readers are listed, all of which were heard

module _ (f : FileState) (live aside : List ℕ) (is : IsFile f) (once : AreDistinct live) (apart : (position : ℕ) → Contains live position → ¬ Contains aside position)
    (few : length live ≤ f.handout.geometry.needed) (back : (position : ℕ) → (Contains live position ⊎ Contains aside position) → IsHeard f position) where
  abbrev pub listed_file : FileState
  listed_file = record f { live = live; aside = aside }

  follows_listed : Follows f listed_file
  follows_listed = record { geometry = refl; ueb = refl; first = refl; end = refl; shares = knows_itself f.handout.trees.shares; later = λ number next. (number, next, omega arith) }

  pub file_listed : IsFile listed_file
  file_listed = record {
    handout = is.handout;
    range = is.range;
    last = is.last;
    next = is.next;
    readers = λ position q there. same_reader f listed_file q follows_listed (is.readers position q there);
    live = record {
      once = once;
      apart = apart;
      there = All-from_contains (λ position. position < length f.readers) live (λ position among. heard_there f position is (back position (inl among)));
      asides = All-from_contains (λ position. position < length f.readers) aside (λ position among. heard_there f position is (back position (inr among)));
      few = few;
      different = λ i j x y one two other at_one at_two. is.live.different i j x y (back i one) (back j two) other at_one at_two;
      waits = λ position q among there. is.live.waits position q (back position among) there;
      upper = λ position q among there. is.live.upper position q (back position among) there;
      reads = λ position q among there. is.live.reads position q (back position among) there;
    };
    ciphertext = record {
      levels = is.ciphertext.levels;
      pieces = is.ciphertext.pieces;
      known = is.ciphertext.known;
      behind = λ position level q among there. is.ciphertext.behind position level q (back position among) there;
    };
    groups = All-weaker (IsGroup f.handout f.readers) (IsGroup f.handout f.readers) (λ group own. own) f.groups is.groups;
    in_order = is.in_order;
  }

  pub moved_listed : HasMoved f listed_file
  moved_listed = record {
    right = file_listed;
    same_copies = refl;
    waiting = λ other. refl;
    asked = asks_no_more f listed_file (λ position q there. inl (q, there, asks_itself q.supply)) (λ position q there. (q, there, asks_itself q.supply));
    reads = λ entries read. read_stays entries f listed_file refl refl refl (grow_none f.handout.trees) (grow_same f.readers) is.groups refl (λ p among. among) read.held read;
    same = same_file f listed_file refl refl refl refl refl refl (grow_none f.handout.trees) (grow_same f.readers) is.groups refl;
  }

  pub asked_up_listed : (other : ℕ) → (slice_get live 0 ≡ Some other → giver f ≡ Some other) → StaysAskedUp f listed_file other
  asked_up_listed other gives = asked_up_stays f listed_file other refl gives (λ q there. (q, there, grows_itself q.supply))

-- ---- a reader gives the ciphertext tree from now on

module _ (f : FileState) (next : ℕ) (s : ReaderState) (is : IsFile f) (heard : IsHeard f next) (at : slice_get f.readers next ≡ Some s) (gave : GaveNone s) where
  abbrev pub giving_file : FileState
  giving_file = record f { readers = slice_set f.readers next (giving s f.taken) }

  follows_giving : Follows f giving_file
  follows_giving = record { geometry = refl; ueb = refl; first = refl; end = refl; shares = knows_itself f.handout.trees.shares; later = λ number now. (number, now, omega arith) }

  is_giving : IsReaderOf giving_file (giving s f.taken)
  is_giving =
      let own = is.readers next s at in
      reader_stays f giving_file s (giving s f.taken) follows_giving own refl
      (gives_supply s.supply f.taken own.supply is.ciphertext.levels (λ p low. piece_of p (is.ciphertext.pieces p low))) refl refl refl refl own.root
    where
      piece_of : (p : NodePiece) → IsNodePiece f.handout.geometry f.first f.end p → IsNodePiece s.supply.geometry s.supply.start s.supply.end p
      piece_of p piece =
          let own = is.readers next s at in
          subst (λ (g : Geometry). IsNodePiece g s.supply.start s.supply.end p) (sym own.geometry)
          (subst (λ (n : ℕ). IsNodePiece f.handout.geometry n s.supply.end p) (sym own.start) (subst (λ (n : ℕ). IsNodePiece f.handout.geometry f.first n p) (sym own.end) piece))

  goes_giving : GoesOn s.supply (gives_from s.supply f.taken)
  goes_giving = record {
    geometry = refl;
    start = refl;
    first = refl;
    end = refl;
    tree = tree_same s.supply.tree s.supply.tree refl;
    more = [];
    held = sym (append-nil s.supply.held);
  }

  same_giving : SameAsks s.supply (gives_from s.supply f.taken)
  same_giving = record { geometry = refl; start = refl; first = refl; end = refl; asked = giving_asks s.supply f.taken gave }

  grow_giving : ReadersGoOn f.readers (slice_set f.readers next (giving s f.taken))
  grow_giving position q there = elim (get_cases f.readers next position (giving s f.taken) s q at there) [
    | inl e ↦ record {
      now = giving s f.taken;
      there = e.2;
      server = ap (λ (x : ReaderState). x.server) e.1;
      share = ap (λ (x : ReaderState). x.share) e.1;
      supply = subst (λ (x : ReaderState). GoesOn x.supply (gives_from s.supply f.taken)) e.1 goes_giving;
    }
    | inr e ↦ record { now = q; there = e.1; server = refl; share = refl; supply = goes_same q.supply }
  ]

  share_was_giving : (position : ℕ) (q : ReaderState) → IsReader giving_file position q → (o : ReaderState) × (IsReader f position o) × (q.share ≡ o.share)
  share_was_giving position q there = elim (set_cases f.readers next position (giving s f.taken) q there) [
    | inl e ↦ (s, ap (slice_get f.readers) e.0 ∙ at, sym (ap (λ (x : ReaderState). x.share) e.1))
    | inr e ↦ (q, e.1, refl)
  ]

  live_giving : AreLive giving_file
  live_giving =
      let long : length (slice_set f.readers next (giving s f.taken)) ≡ length f.readers = length-set f.readers next (giving s f.taken) in
      record {
        once = is.live.once;
        apart = is.live.apart;
        there = All-weaker (λ position. position < length f.readers) (λ position. position < length (slice_set f.readers next (giving s f.taken))) (λ position low. omega (arith, low, long)) f.live is.live.there;
        asides = All-weaker (λ position. position < length f.readers) (λ position. position < length (slice_set f.readers next (giving s f.taken))) (λ position low. omega (arith, low, long)) f.aside is.live.asides;
        few = is.live.few;
        different = λ i j x y one two other at_one at_two alike.
            let a = share_was_giving i x at_one in
            let b = share_was_giving j y at_two in
            is.live.different i j a.0 b.0 one two other a.1 b.1 (sym a.2 ∙ alike ∙ b.2);
        waits = λ position q among there. elim (set_cases f.readers next position (giving s f.taken) q there) [
          | inl e ↦ subst (λ (x : ReaderState). LeadOn x.supply.taken (waiting_parts x.waiting) x.supply.asked) e.1
              (lead_giving s.supply f.taken (waiting_parts s.waiting) (is.readers next s at).supply (gave_none s.supply gave)
              (is.live.waits next s heard at))
          | inr e ↦ is.live.waits position q among e.1
        ];
        upper = λ position q among there. elim (set_cases f.readers next position (giving s f.taken) q there) [
          | inl e ↦ subst WaitsByLevels e.1
              (upper_giving s.supply f.taken (waiting_parts s.waiting) (is.readers next s at).supply (gave_none s.supply gave) (is.live.waits next s heard at) (is.live.upper next s heard at))
          | inr e ↦ is.live.upper position q among e.1
        ];
        reads = λ position q among there. elim (set_cases f.readers next position (giving s f.taken) q there) [
          | inl e ↦ subst (λ (x : ReaderState). All (λ v. IsReadOf x.supply v.wanted) x.waiting) e.1 (is.live.reads next s heard at)
          | inr e ↦ is.live.reads position q among e.1
        ];
      }

  file_giving : IsFile giving_file
  file_giving = record {
    handout = is.handout;
    range = is.range;
    last = is.last;
    next = is.next;
    readers = λ position q there. elim (set_cases f.readers next position (giving s f.taken) q there) [
      | inl e ↦ subst (IsReaderOf giving_file) e.1 is_giving
      | inr e ↦ same_reader f giving_file q follows_giving (is.readers position q e.1)
    ];
    live = live_giving;
    ciphertext = record {
      levels = is.ciphertext.levels;
      pieces = is.ciphertext.pieces;
      known = is.ciphertext.known;
      behind = λ position level q among there. elim (set_cases f.readers next position (giving s f.taken) q there) [
        | inl e ↦ subst (λ (x : ReaderState). cursor_at x.supply.taken.ciphertext_tree level ≤ cursor_at f.taken level) e.1 (omega arith)
        | inr e ↦ is.ciphertext.behind position level q among e.1
      ];
    };
    groups = All-weaker (IsGroup f.handout f.readers) (IsGroup f.handout (slice_set f.readers next (giving s f.taken)))
        (λ group own. group_stays f.handout f.handout f.readers (slice_set f.readers next (giving s f.taken)) group refl grow_giving own) f.groups is.groups;
    in_order = is.in_order;
  }

  read_giving : StaysRead f giving_file
  read_giving entries read = read_stays entries f giving_file refl refl refl (grow_none f.handout.trees) grow_giving is.groups refl (λ p among. among)
      (λ position q there. elim (set_cases f.readers next position (giving s f.taken) q there) [
        | inl e ↦ subst (λ (x : ReaderState). HoldsAnswers entries x) e.1 (read.held next s at)
        | inr e ↦ read.held position q e.1
      ])
      read

  pub moved_giving : HasMoved f giving_file
  moved_giving = record {
    right = file_giving;
    same_copies = map_set (λ (q : ReaderState). copy_of q) f.readers next (giving s f.taken) s at refl;
    waiting = λ other. waiting_set f.readers next other (giving s f.taken) s at refl;
    asked = asks_no_more f giving_file
        (λ position q there. elim (set_cases f.readers next position (giving s f.taken) q there) [
          | inl e ↦ inl (s, ap (slice_get f.readers) e.0 ∙ at, subst (λ (x : ReaderState). SameAsks s.supply x.supply) e.1 same_giving)
          | inr e ↦ inl (q, e.1, asks_itself q.supply)
        ])
        (λ position q there. elim (get_cases f.readers next position (giving s f.taken) s q at there) [
          | inl e ↦ (giving s f.taken, e.2, subst (λ (x : ReaderState). SameAsks x.supply (gives_from s.supply f.taken)) e.1 same_giving)
          | inr e ↦ (q, e.1, asks_itself q.supply)
        ]);
    reads = read_giving;
    same = same_file f giving_file refl refl refl refl refl refl (grow_none f.handout.trees) grow_giving is.groups refl;
  }

-- the first of some readers that are heard gives it, where there is one
pub moved_first : (f : FileState) (live : List ℕ) (rs : List ReaderState) → IsFile f → ((next : ℕ) → slice_get live 0 ≡ Some next → IsHeard f next)
    → GivesFirst f.readers live f.taken rs → HasMoved f (record f { readers = rs })
moved_first f live rs is heard (inl none) = subst (λ (l : List ReaderState). HasMoved f (record f { readers = l })) (sym none.1) (moved_none f is)
moved_first f live rs is heard (inr k) = elim k.gives [
  | inl gives ↦
      subst (λ (l : List ReaderState). HasMoved f (record f { readers = l })) (sym (k.new_is ∙ ap (slice_set f.readers k.next) gives.1))
      (moved_giving f k.next k.r is (heard k.next k.first) k.at gives.0)
  | inr same ↦
      subst (λ (l : List ReaderState). HasMoved f (record f { readers = l })) (sym (k.new_is ∙ ap (slice_set f.readers k.next) same.1 ∙ set_same f.readers k.next k.r k.at))
      (moved_none f is)
]
