-- Readers of a file that go on.
use Rattle.std.proofs.Common.{◌≡◌, ◌↔◌, ℕ, zero, suc, ◌+◌, ◌<◌, ◌≤◌, ◌⊎◌, inl, inr, List, [], ◌∷◌, length, Some, refl, sym, ap, subst, ◌∙◌, arith}
use Rattle.std.specs.Prelude.{slice_get}
use Rattle.std.proofs.lemmas.Bool.{false≢true}
use Rattle.std.proofs.lemmas.List.Elements.{All-contains}
use Rattle.share_layout.specs.Geometry.{Geometry}
use Rattle.download_parts.specs.Plan.{IsNodePiece, data_pieces, length_of, offset_of}
use Rattle.download_parts.specs.declared.part.NodePiece.{NodePiece}
use Rattle.download_parts.specs.declared.part.Part.{Part}
use Rattle.download_parts.specs.declared.part.Part.TheVariants.{ShareHashes, BlockTree, CiphertextTree, Data}
use Rattle.download_parts.specs.Trees.{KnowsAllOf}
use Rattle.download_supply.specs.Asking.{IsAsked, IsWanted, IsWantedCiphertext, IsWithin}
use Rattle.download_supply.specs.Cursors.{IsPassed, cursor_at}
use Rattle.download_supply.specs.Supply.{IsSupply, SupplyState, first_of, gives_from, new_supply}
use Rattle.download_supply.specs.declared.cursors.Cursors.{Cursors}
use Rattle.download_segments.specs.Handout.{next_segment}
use Rattle.download_file.specs.State.{FileState, IsHeard, ReaderState, giver}
use Rattle.download_file.specs.Asked.{AsksNoMore}
use Rattle.download_file.specs.Changes.{StaysAskedUp}
use Rattle.download_file.specs.Right.{IsFile, IsReaderOf, TellsRoot}
use Rattle.download_file.proofs.GrowLemmas.{tells_still}

-- ---- what was asked

pub first_same : (s t : SupplyState) → t.start ≡ s.start → t.first ≡ s.first → (part : Part) → first_of t part ≡ first_of s part
first_same s t start first ShareHashes = first
first_same s t start first (BlockTree p) = first
first_same s t start first (CiphertextTree p) = start
first_same s t start first (Data i) = first

pub asked_same : (s t : SupplyState) → t.given ≡ s.given → t.asked ≡ s.asked → (part : Part) → IsAsked s part → IsAsked t part
asked_same s t given asked ShareHashes h = subst (λ (c : Cursors). IsPassed c ShareHashes) (sym asked) h
asked_same s t given asked (BlockTree p) h = subst (λ (c : Cursors). IsPassed c (BlockTree p)) (sym asked) h
asked_same s t given asked (CiphertextTree p) h =
    (subst (λ (g : List ℕ). cursor_at g p.level ≤ p.index) (sym given) h.0, subst (λ (c : Cursors). IsPassed c (CiphertextTree p)) (sym asked) h.1)
asked_same s t given asked (Data i) h = subst (λ (c : Cursors). IsPassed c (Data i)) (sym asked) h

-- it reads the same parts of the same share, and the same was asked of it
pub record SameAsks (s t : SupplyState) : Type 0 where
  pub geometry : t.geometry ≡ s.geometry
  pub start : t.start ≡ s.start
  pub first : t.first ≡ s.first
  pub end : t.end ≡ s.end
  pub asked : (part : Part) → IsAsked t part ↔ IsAsked s part

pub same_asks : (s t : SupplyState) → t.geometry ≡ s.geometry → t.start ≡ s.start → t.first ≡ s.first → t.end ≡ s.end → t.given ≡ s.given → t.asked ≡ s.asked → SameAsks s t
same_asks s t geometry start first end given asked = record {
  geometry = geometry;
  start = start;
  first = first;
  end = end;
  asked = λ part. (asked_same t s (sym given) (sym asked) part, asked_same s t given asked part);
}

pub asks_itself : (s : SupplyState) → SameAsks s s
asks_itself s = same_asks s s refl refl refl refl refl refl

-- nothing is asked of a new supply
pub cursor_none : (level : ℕ) → cursor_at (0 ∷ 0 ∷ 0 ∷ []) level ≡ 0
cursor_none zero = refl
cursor_none (suc zero) = refl
cursor_none (suc (suc zero)) = refl
cursor_none (suc (suc (suc level))) = refl

pub new_asks_none : (g : Geometry) (start first end : ℕ) (part : Part) → ¬ IsAsked (new_supply g start first end) part
new_asks_none g start first end ShareHashes h = false≢true h
new_asks_none g start first end (BlockTree p) h = let e = cursor_none p.level in omega (arith, h, e)
new_asks_none g start first end (CiphertextTree p) h = let low = h.1 in let e = cursor_none p.level in omega (arith, low, e)
new_asks_none g start first end (Data i) h = omega (arith, h)

-- nothing of the ciphertext tree was asked of a supply that is asked from where it gives it
pub gave_none : (s : SupplyState) → s.asked.ciphertext_tree ≡ s.given → (p : NodePiece) → ¬ IsAsked s (CiphertextTree p)
gave_none s same p h =
    let from = h.0 in
    let before = h.1 in
    let e = ap (λ (l : List ℕ). cursor_at l p.level) same in
    omega (arith, from, before, e)

-- the same was asked of a supply that gives the ciphertext tree, of which none of it was asked
pub giving_asks : (s : SupplyState) (levels : List ℕ) → s.asked.ciphertext_tree ≡ s.given → (part : Part) → IsAsked (gives_from s levels) part ↔ IsAsked s part
giving_asks s levels same ShareHashes = ((λ h. h), (λ h. h))
giving_asks s levels same (BlockTree p) = ((λ h. h), (λ h. h))
giving_asks s levels same (CiphertextTree p) = ((λ h. let low = h.1 in let high = h.0 in absurd (omega (arith, low, high))), (λ h. absurd (gave_none s same p h)))
giving_asks s levels same (Data i) = ((λ h. h), (λ h. h))

-- each reader has been asked the same at its position, and a new one nothing
abbrev pub KeepsAsks : List ReaderState → List ReaderState → Type 0
KeepsAsks rs rs' = (position : ℕ) (r' : ReaderState) → slice_get rs' position ≡ Some r'
    → ((r : ReaderState) × (slice_get rs position ≡ Some r) × SameAsks r.supply r'.supply) ⊎ ((part : Part) → ¬ IsAsked r'.supply part)

abbrev pub StillAsks : List ReaderState → List ReaderState → Type 0
StillAsks rs rs' = (position : ℕ) (r : ReaderState) → slice_get rs position ≡ Some r
    → (r' : ReaderState) × (slice_get rs' position ≡ Some r') × SameAsks r.supply r'.supply

pub asks_no_more : (f f' : FileState) → KeepsAsks f.readers f'.readers → StillAsks f.readers f'.readers → AsksNoMore f f'
asks_no_more f f' keeps still reader offset len = (
  (λ has. elim (keeps reader has.r has.there) [
    | inl k ↦ record {
      r = k.0;
      there = k.1;
      part = has.part;
      asked = (k.2.asked has.part).0 has.asked;
      offset_is = has.offset_is ∙ (λ i. offset_of (k.2.geometry i) (first_same k.0.supply has.r.supply k.2.start k.2.first has.part i) (k.2.end i) has.part);
      long = has.long ∙ (λ i. length_of (k.2.geometry i) (first_same k.0.supply has.r.supply k.2.start k.2.first has.part i) (k.2.end i) has.part);
    }
    | inr none ↦ absurd (none has.part has.asked)
  ]),
  (λ has.
      let k = still reader has.r has.there in
      record {
        r = k.0;
        there = k.1;
        part = has.part;
        asked = (k.2.asked has.part).1 has.asked;
        offset_is = has.offset_is ∙ sym (λ i. offset_of (k.2.geometry i) (first_same has.r.supply k.0.supply k.2.start k.2.first has.part i) (k.2.end i) has.part);
        long = has.long ∙ sym (λ i. length_of (k.2.geometry i) (first_same has.r.supply k.0.supply k.2.start k.2.first has.part i) (k.2.end i) has.part);
      }),
)

-- ---- all that is wanted is asked

-- it reads the same parts of the same share, and no less was asked of it
pub record GrowsAsks (s t : SupplyState) : Type 0 where
  pub geometry : t.geometry ≡ s.geometry
  pub start : t.start ≡ s.start
  pub first : t.first ≡ s.first
  pub end : t.end ≡ s.end
  pub given : t.given ≡ s.given
  pub asked : (part : Part) → IsAsked s part → IsAsked t part

pub grows_itself : (s : SupplyState) → GrowsAsks s s
grows_itself s = record { geometry = refl; start = refl; first = refl; end = refl; given = refl; asked = λ part is. is }

within_back : (s t : SupplyState) (number : ℕ) → GrowsAsks s t → IsWithin t number → IsWithin s number
within_back s t number k within =
    let from = within.from in
    let before = within.before in
    let first = k.first in
    let end = k.end in
    record { from = omega (arith, from, first); before = omega (arith, before, end) }

piece_back : (g h : Geometry) (a b end : ℕ) (p : NodePiece) → h ≡ g → b ≡ a → IsNodePiece h b end p → IsNodePiece g a end p
piece_back g h a b end p geometry first piece = subst (λ (k : Geometry). IsNodePiece k a end p) geometry (subst (λ (n : ℕ). IsNodePiece h n end p) first piece)

pub wanted_back : (s t : SupplyState) (number : ℕ) (part : Part) → GrowsAsks s t → IsWanted t number part → IsWanted s number part
wanted_back s t number ShareHashes k h = (within_back s t number k h.0, tt)
wanted_back s t number (BlockTree p) k h = (within_back s t number k h.0, piece_back s.geometry t.geometry s.first t.first (number + 1) p k.geometry k.first h.1)
wanted_back s t number (CiphertextTree p) k h = absurd h
wanted_back s t number (Data i) k h =
    (within_back s t number k h.0, subst (λ (g : Geometry). i < data_pieces g s.first (number + 1)) k.geometry (subst (λ (n : ℕ). i < data_pieces t.geometry n (number + 1)) k.first h.1))

pub ciphertext_back : (s t : SupplyState) (number : ℕ) (part : Part) → GrowsAsks s t → IsWantedCiphertext t number part → IsWantedCiphertext s number part
ciphertext_back s t number ShareHashes k h = h
ciphertext_back s t number (BlockTree p) k h = h
ciphertext_back s t number (CiphertextTree p) k h =
    let start = k.start in
    let end = k.end in
    let from = h.0 in
    let before = h.1 in (
      omega (arith, from, start),
      omega (arith, before, end),
      subst (λ (g : List ℕ). cursor_at g p.level ≤ p.index) k.given h.2,
      piece_back s.geometry t.geometry s.start t.start (number + 1) p k.geometry k.start h.3,
    )
ciphertext_back s t number (Data i) k h = h

pub asked_up_stays : (f f' : FileState) (reader : ℕ) → next_segment f'.handout ≡ next_segment f.handout → (giver f' ≡ Some reader → giver f ≡ Some reader)
    → ((r' : ReaderState) → slice_get f'.readers reader ≡ Some r' → (r : ReaderState) × (slice_get f.readers reader ≡ Some r) × GrowsAsks r.supply r'.supply)
    → StaysAskedUp f f' reader
asked_up_stays f f' reader next gives each up = record {
  own = λ r' number part at is wanted.
      let k = each r' at in
      k.2.asked part (up.own k.0 number part k.1 (sym next ∙ is) (wanted_back k.0.supply r'.supply number part k.2 wanted));
  ciphertext = λ r' number part first at is wanted.
      let k = each r' at in
      k.2.asked part (up.ciphertext k.0 number part (gives first) k.1 (sym next ∙ is) (ciphertext_back k.0.supply r'.supply number part k.2 wanted));
}

-- ---- readers of a file

-- a reader that is heard is there
pub heard_there : (f : FileState) (position : ℕ) → IsFile f → IsHeard f position → position < length f.readers
heard_there f position is (inl among) = All-contains (λ p. p < length f.readers) f.live position is.live.there among
heard_there f position is (inr among) = All-contains (λ p. p < length f.readers) f.aside position is.live.asides among

-- it is the same download of the same file, and its next segment is not before the other's
pub record Follows (f f' : FileState) : Type 0 where
  pub geometry : f'.handout.geometry ≡ f.handout.geometry
  pub ueb : f'.handout.ueb ≡ f.handout.ueb
  pub first : f'.first ≡ f.first
  pub end : f'.end ≡ f.end
  pub shares : KnowsAllOf f.handout.trees.shares f'.handout.trees.shares
  pub later : (number : ℕ) → next_segment f'.handout ≡ Some number → (before : ℕ) × (next_segment f.handout ≡ Some before) × (before ≤ number)

-- a reader that reads the same parts of the same share is still one of the file
pub reader_stays : (f f' : FileState) (r r' : ReaderState) → Follows f f' → IsReaderOf f r → r'.share ≡ r.share → IsSupply r'.supply
    → r'.supply.geometry ≡ r.supply.geometry → r'.supply.start ≡ r.supply.start → r'.supply.first ≡ r.supply.first → r'.supply.end ≡ r.supply.end
    → TellsRoot f'.handout.trees.shares r.share r'.supply.tree → IsReaderOf f' r'
reader_stays f f' r r' follows is share supply geometry start first end root = record {
  supply = supply;
  geometry = geometry ∙ is.geometry ∙ sym follows.geometry;
  start = start ∙ is.start ∙ sym follows.first;
  end = end ∙ is.end ∙ sym follows.end;
  begun = λ number next.
      let k = follows.later number next in
      let was = is.begun k.0 k.1 in
      let order = k.2 in
      omega (arith, first, was, order);
  share = subst (λ (g : Geometry). r'.share < g.total) (sym follows.geometry) (let low = is.share in omega (arith, low, share));
  root = subst (λ (n : ℕ). TellsRoot f'.handout.trees.shares n r'.supply.tree) (sym share) root;
}

pub same_reader : (f f' : FileState) (r : ReaderState) → Follows f f' → IsReaderOf f r → IsReaderOf f' r
same_reader f f' r follows is =
    reader_stays f f' r r follows is refl is.supply refl refl refl refl (tells_still f.handout.trees.shares f'.handout.trees.shares r.share r.supply.tree follows.shares is.root)
