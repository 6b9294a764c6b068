-- Readers that go on: what they hold stays, and so do the segments that were made of it.
use Rattle.std.proofs.Common.{◌≡◌, ℕ, zero, suc, ◌+◌, ◌-◌, ◌<◌, ◌≤◌, List, [], ◌∷◌, ◌++◌, All, Contains, length, map, take, drop, get_or, Option, Some, None, is_some, option_and_then, refl, sym, ap, subst, ◌∙◌, arith}
use Rattle.std.specs.Prelude.{slice_get, slice_range}
use Rattle.std.proofs.lemmas.List.{append_assoc, append-nil, drop-append-le, drop-map, length-append, length-drop, take-append-le, take-map}
use Rattle.std.proofs.lemmas.List.Elements.{All-contains, All-weaker}
use Rattle.std.proofs.lemmas.Option.{none-some, slice_get_within, slice_get-get_or}
use Rattle.lemmas.proofs.Options.{one_there}
use Rattle.lemmas.proofs.Members.{contains_head, contains_tail}
use Rattle.request_record.specs.declared.requests.Request.{Request}
use Rattle.tagged_hash.specs.TaggedHash.{tagged_hash}
use Rattle.tagged_hash.specs.declared.tag.Tag.TheVariants.{Block}
use Rattle.merkle.specs.Partial.{PartialState}
use Rattle.ueb.specs.Shape.{Contents}
use Rattle.share_layout.specs.Geometry.{Geometry}
use Rattle.proved_parts.specs.Decoding.{DecodesBlocks}
use Rattle.download_supply.specs.Blocks.{IsHeld, block_end, block_first, joined_block}
use Rattle.download_supply.proofs.PlanLemmas.{block_order}
use Rattle.download_supply.specs.Supply.{SupplyState}
use Rattle.download_supply.specs.Taking.{known_hash}
use Rattle.download_parts.specs.Trees.{KnowsAllOf, known_leaf}
use Rattle.download_parts.proofs.TreeLemmas.{knows_itself, knows_two, leaf_stays}
use Rattle.download_segments.specs.Decoding.{blocks_in}
use Rattle.download_segments.specs.Pieces.{IsSlice}
use Rattle.download_segments.specs.State.{HandoutState, TreesGrow}
use Rattle.download_segments.specs.declared.piece.Piece.{Piece}
use Rattle.download_segments.proofs.TreeLemmas.{grow_none, grow_two as grow_trees, proved_stays}
use Rattle.download_segments.specs.GroupState.{GroupState}
use Rattle.download_parts.specs.Plan.{length_of}
use Rattle.download_parts.specs.declared.part.Part.TheVariants.{Data}
use Rattle.download_file.specs.State.{FileState, ReaderState, numbers_of, share_in}
use Rattle.download_file.specs.Answers.{AnsweredWith, HasRightBlock, HoldsAnswers, HoldsFor, IsAnswerOf, IsGivenBy, IsMade, IsMadeSegment, IsRead, KeepsAnswers, answer_at, block_in, block_of, blocks_of, bytes_in, bytes_of}
use Rattle.download_file.specs.Changes.{GoesOn, IsSameFile, ReadersGoOn, StaysGiven, StaysMade, TreeStays}
use Rattle.download_file.specs.Laws.{GivenStays, ReadsStay}
use Rattle.download_file.specs.Making.{IsInconsistent}
use Rattle.download_file.specs.Right.{IsGroup, TellsRoot}

-- ---- lists

-- the first elements of a longer list
pub range_first : (xs ys : List ℕ) (a b : ℕ) → a ≤ b → b ≤ length xs → slice_range (xs ++ ys) a b ≡ slice_range xs a b
range_first xs ys a b order within =
    let low : a ≤ length xs = omega (arith, order, within) in
    let long : length (drop a xs) ≡ length xs - a = length-drop a xs in
    ap (take (b - a)) (drop-append-le a xs ys low) ∙ take-append-le (b - a) (drop a xs) ys (omega (arith, long, within))

-- ---- what a supply holds

pub tree_same : (o p : Option PartialState) → p ≡ o → TreeStays o p
tree_same o p same tree is = (tree, same ∙ is, knows_itself tree)

pub tree_two : (o p q : Option PartialState) → TreeStays o p → TreeStays p q → TreeStays o q
tree_two o p q first second tree is =
    let a = first tree is in
    let b = second a.0 a.1 in
    (b.0, b.1, knows_two tree a.0 b.0 a.2 b.2)

pub goes_same : (s : SupplyState) → GoesOn s s
goes_same s = record { geometry = refl; start = refl; first = refl; end = refl; tree = tree_same s.tree s.tree refl; more = []; held = sym (append-nil s.held) }

pub goes_two : (s t u : SupplyState) → GoesOn s t → GoesOn t u → GoesOn s u
goes_two s t u a b = record {
  geometry = b.geometry ∙ a.geometry;
  start = b.start ∙ a.start;
  first = b.first ∙ a.first;
  end = b.end ∙ a.end;
  tree = tree_two s.tree t.tree u.tree a.tree b.tree;
  more = a.more ++ b.more;
  held = b.held ∙ ap (λ (l : List ℕ). l ++ b.more) a.held ∙ append_assoc s.held a.more b.more;
}

-- the hash that is known of a block stays known
hash_stays : (s t : SupplyState) (number : ℕ) (hash : List ℕ) → GoesOn s t → known_hash s number ≡ Some hash → known_hash t number ≡ Some hash
hash_stays s t number hash goes known = by s.tree refl
  where
    by : (o : Option PartialState) → s.tree ≡ o → known_hash t number ≡ Some hash
    by None e = absurd (none-some hash (sym (ap (option_and_then (λ tree. known_leaf tree number)) e) ∙ known))
    by (Some tree) e =
        let k = goes.tree tree e in
        ap (option_and_then (λ tree. known_leaf tree number)) k.1
        ∙ leaf_stays tree k.0 number hash k.2 (sym (ap (option_and_then (λ tree. known_leaf tree number)) e) ∙ known)

pub held_stays : (s t : SupplyState) (number : ℕ) → GoesOn s t → IsHeld s number → IsHeld t number
held_stays s t number goes held =
    let from = held.within.from in
    let before = held.within.before in
    let pieces = held.pieces in
    let first = goes.first in
    let end = goes.end in
    let same : block_end t.geometry t.first number ≡ block_end s.geometry s.first number = λ i. block_end (goes.geometry i) (goes.first i) number in
    let long : length t.held ≡ length s.held + length goes.more = ap length goes.held ∙ length-append s.held goes.more in
    record {
      within = record { from = omega (arith, from, first); before = omega (arith, before, end) };
      pieces = omega (arith, pieces, same, long);
    }

pub block_stays : (entries : List Request) (s t : SupplyState) (number : ℕ) → GoesOn s t → IsHeld s number → block_of entries t number ≡ block_of entries s number
block_stays entries s t number goes held =
    (λ i. joined_block (goes.geometry i) (goes.first i) number
    (map (answer_at entries) (slice_range (goes.held i) (block_first (goes.geometry i) (goes.first i) number) (block_end (goes.geometry i) (goes.first i) number))))
    ∙ ap (λ (positions : List ℕ). joined_block s.geometry s.first number (map (answer_at entries) positions))
    (range_first s.held goes.more (block_first s.geometry s.first number) (block_end s.geometry s.first number)
    (block_order s.geometry s.first number) held.pieces)

-- a block that is right stays so
pub right_stays : (entries : List Request) (r q : ReaderState) (number : ℕ) → GoesOn r.supply q.supply → HasRightBlock entries r number → HasRightBlock entries q number
right_stays entries r q number goes right =
    let same = block_stays entries r.supply q.supply number goes right.ready.held in
    let known : known_hash q.supply number ≡ Some (tagged_hash Block (block_of entries q.supply number)) =
    hash_stays r.supply q.supply number (tagged_hash Block (block_of entries q.supply number)) goes (right.proved ∙ ap (λ (l : List ℕ). Some (tagged_hash Block l)) (sym same)) in
    record {
      ready = record { held = held_stays r.supply q.supply number goes right.ready.held; known = ap is_some known };
      proved = known;
    }

-- ---- readers

pub grow_same : (rs : List ReaderState) → ReadersGoOn rs rs
grow_same rs position r e = record { now = r; there = e; server = refl; share = refl; supply = goes_same r.supply }

pub grow_two : (rs ss ts : List ReaderState) → ReadersGoOn rs ss → ReadersGoOn ss ts → ReadersGoOn rs ts
grow_two rs ss ts first second position r e =
    let a = first position r e in
    let b = second position a.now a.there in
    record { now = b.now; there = b.there; server = b.server ∙ a.server; share = b.share ∙ a.share; supply = goes_two r.supply a.now.supply b.now.supply a.supply b.supply }

pub numbers_same : (rs rs' : List ReaderState) (positions : List ℕ) → ((position : ℕ) → Contains positions position → share_in (slice_get rs' position) ≡ share_in (slice_get rs position))
    → numbers_of rs' positions ≡ numbers_of rs positions
numbers_same rs rs' [] same = refl
numbers_same rs rs' (p ∷ ps) same = λ i. same p (contains_head p ps) i ∷ numbers_same rs rs' ps (λ q among. same q (contains_tail p q ps among)) i

pub blocks_same : (entries new : List Request) (rs rs' : List ReaderState) (number : ℕ) (positions : List ℕ)
    → ((position : ℕ) → Contains positions position → block_in new number (slice_get rs' position) ≡ block_in entries number (slice_get rs position))
    → blocks_of new rs' number positions ≡ blocks_of entries rs number positions
blocks_same entries new rs rs' number [] same = refl
blocks_same entries new rs rs' number (p ∷ ps) same =
    λ i. same p (contains_head p ps) i ++ blocks_same entries new rs rs' number ps (λ q among. same q (contains_tail p q ps among)) i

-- the reader at a position that is there
pub reader_there : (rs : List ReaderState) (position : ℕ) → position < length rs → (r : ReaderState) × (slice_get rs position ≡ Some r)
reader_there [] position low = absurd (omega (arith, low))
reader_there (r ∷ rs) zero low = (r, refl)
reader_there (r ∷ rs) (suc position) low = reader_there rs position (omega (arith, low))

pub group_stays : (h h' : HandoutState) (rs rs' : List ReaderState) (group : GroupState) → h'.geometry ≡ h.geometry → ReadersGoOn rs rs'
    → IsGroup h rs group → IsGroup h' rs' group
group_stays h h' rs rs' group geometry grow is = record {
  geometry = is.geometry ∙ sym geometry;
  decoding = is.decoding;
  there = All-weaker (λ position. position < length rs) (λ position. position < length rs') (λ position low.
      let r = reader_there rs position low in
      let r' = grow position r.0 r.1 in
      slice_get_within rs' position r'.now r'.there) group.readers is.there;
  numbers = is.numbers ∙ sym (numbers_same rs rs' group.readers (λ position among.
      let r = reader_there rs position (All-contains (λ p. p < length rs) group.readers position is.there among) in
      let r' = grow position r.0 r.1 in
      ap share_in r'.there ∙ r'.share ∙ sym (ap share_in r.1)));
}

pub made_stays : (entries : List Request) (h h' : HandoutState) (rs rs' : List ReaderState) (group : GroupState) (number : ℕ)
    → h'.geometry ≡ h.geometry → TreesGrow h.trees h'.trees → ReadersGoOn rs rs' → IsGroup h rs group
    → IsMade entries h rs group number → IsMade entries h' rs' group number
made_stays entries h h' rs rs' group number geometry trees grow is made =
    let same : blocks_of entries rs' number group.readers ≡ blocks_of entries rs number group.readers =
    blocks_same entries entries rs rs' number group.readers (λ position among.
    let r = reader_there rs position (All-contains (λ p. p < length rs) group.readers position is.there among) in
    let r' = grow position r.0 r.1 in
    ap (block_in entries number) r'.there ∙ block_stays entries r.0.supply r'.now.supply number r'.supply (made.right position r.0 among r.1).ready.held ∙ sym (ap (block_in entries number) r.1)) in
    record {
      right = λ position t among at.
          let r = reader_there rs position (All-contains (λ p. p < length rs) group.readers position is.there among) in
          let r' = grow position r.0 r.1 in
          subst (λ (q : ReaderState). HasRightBlock entries q number) (one_there (slice_get rs' position) r'.now t r'.there at)
          (right_stays entries r.0 r'.now number r'.supply (made.right position r.0 among r.1));
      segment = made.segment;
      decodes = subst (λ (g : Geometry). DecodesBlocks g group.decoding.numbers (blocks_in g number (blocks_of entries rs' number group.readers)) number made.segment) (sym geometry)
          (subst (λ (joined : List ℕ). DecodesBlocks h.geometry group.decoding.numbers (blocks_in h.geometry number joined) number made.segment) (sym same) made.decodes);
      proved = proved_stays h h' number made.segment geometry trees made.proved;
    }

made_segment : (entries : List Request) (h h' : HandoutState) (rs rs' : List ReaderState) (group : GroupState) (number : ℕ)
    (geometry : h'.geometry ≡ h.geometry) (trees : TreesGrow h.trees h'.trees) (grow : ReadersGoOn rs rs') (is : IsGroup h rs group)
    (made : IsMade entries h rs group number) → (made_stays entries h h' rs rs' group number geometry trees grow is made).segment ≡ made.segment
unfolding made_stays
made_segment entries h h' rs rs' group number geometry trees grow is made = refl

-- a slice of a segment is one of each file with this key and this extension block
pub slice_stays : (f f' : FileState) (number : ℕ) (segment : List ℕ) (p : Piece) → f'.handout.key ≡ f.handout.key → f'.handout.ueb ≡ f.handout.ueb
    → IsSlice f.handout.key f.handout.ueb.segment_size number segment p → IsSlice f'.handout.key f'.handout.ueb.segment_size number segment p
slice_stays f f' number segment p key ueb slice =
    subst (λ (k : List ℕ). IsSlice k f'.handout.ueb.segment_size number segment p) (sym key)
    (subst (λ (u : Contents). IsSlice f.handout.key u.segment_size number segment p) (sym ueb) slice)

-- what was made stays made where readers go on
pub segment_stays : (f f' : FileState) → f'.handout.geometry ≡ f.handout.geometry → TreesGrow f.handout.trees f'.handout.trees → ReadersGoOn f.readers f'.readers
    → All (IsGroup f.handout f.readers) f.groups → f'.groups ≡ f.groups → StaysMade f f'
segment_stays f f' geometry trees grow groups same entries number segment m =
    let is = All-contains (IsGroup f.handout f.readers) f.groups m.group groups m.among in
    record {
      group = m.group;
      among = subst (λ (gs : List GroupState). Contains gs m.group) (sym same) m.among;
      from = m.from;
      before = m.before;
      made = made_stays entries f.handout f'.handout f.readers f'.readers m.group number geometry trees grow is m.made;
      is = made_segment entries f.handout f'.handout f.readers f'.readers m.group number geometry trees grow is m.made ∙ m.is;
    }

-- what was given stays given where readers go on
pub given_stays : (f f' : FileState) → f'.handout.key ≡ f.handout.key → f'.handout.ueb ≡ f.handout.ueb → f'.handout.geometry ≡ f.handout.geometry
    → TreesGrow f.handout.trees f'.handout.trees → ReadersGoOn f.readers f'.readers → All (IsGroup f.handout f.readers) f.groups → f'.groups ≡ f.groups → StaysGiven f f'
given_stays f f' key ueb geometry trees grow groups same entries p g = record {
  number = g.number;
  segment = g.segment;
  made = segment_stays f f' geometry trees grow groups same entries g.number g.segment g.made;
  slice = slice_stays f f' g.number g.segment p key ueb g.slice;
}

-- it is the same file where readers go on
pub same_file : (f f' : FileState) → f'.handout.key ≡ f.handout.key → f'.handout.ueb ≡ f.handout.ueb → f'.handout.geometry ≡ f.handout.geometry → f'.handout.to ≡ f.handout.to
    → f'.first ≡ f.first → f'.end ≡ f.end → TreesGrow f.handout.trees f'.handout.trees → ReadersGoOn f.readers f'.readers → All (IsGroup f.handout f.readers) f.groups → f'.groups ≡ f.groups
    → IsSameFile f f'
same_file f f' key ueb geometry to first end trees grow groups same = record {
  key = key;
  ueb = ueb;
  geometry = geometry;
  to = to;
  first = first;
  end = end;
  trees = trees;
  readers = grow;
  made = segment_stays f f' geometry trees grow groups same;
  given = given_stays f f' key ueb geometry trees grow groups same;
}

-- what the record says of the file stays true where its readers go on and hold answers
pub read_stays : (entries : List Request) (f f' : FileState) → f'.handout.key ≡ f.handout.key → f'.handout.ueb ≡ f.handout.ueb → f'.handout.geometry ≡ f.handout.geometry → TreesGrow f.handout.trees f'.handout.trees
    → ReadersGoOn f.readers f'.readers → All (IsGroup f.handout f.readers) f.groups → f'.groups ≡ f.groups
    → ((p : Piece) → Contains f'.handout.ready p → Contains f.handout.ready p) → ((position : ℕ) (r : ReaderState) → slice_get f'.readers position ≡ Some r → HoldsAnswers entries r)
    → IsRead entries f → IsRead entries f'
read_stays entries f f' key ueb geometry trees grow groups same ready held read = record {
  held = held;
  made = λ group number among from before.
      let was : Contains f.groups group = subst (λ (gs : List GroupState). Contains gs group) same among in
      made_stays entries f.handout f'.handout f.readers f'.readers group number geometry trees grow
      (All-contains (IsGroup f.handout f.readers) f.groups group groups was) (read.made group number was from before);
  ready = λ p among. given_stays f f' key ueb geometry trees grow groups same entries p (read.ready p (ready p among));
}

-- ---- answers that stay

pub answer_is : (entries : List Request) (position : ℕ) (bytes : List ℕ) → AnsweredWith entries position bytes → answer_at entries position ≡ bytes
answer_is entries position bytes a = ap bytes_of a.there ∙ ap bytes_in a.answer

map_same : (f g : ℕ → List ℕ) (xs : List ℕ) → ((x : ℕ) → Contains xs x → f x ≡ g x) → map f xs ≡ map g xs
map_same f g [] same = refl
map_same f g (x ∷ xs) same = λ i. same x (contains_head x xs) i ∷ map_same f g xs (λ y among. same y (contains_tail x y xs among)) i

map_range : (f g : ℕ → List ℕ) (xs : List ℕ) (a b : ℕ) → map f xs ≡ map g xs → map f (slice_range xs a b) ≡ map g (slice_range xs a b)
map_range f g xs a b same =
    sym (take-map f (b - a) (drop a xs)) ∙ ap (take (b - a)) (sym (drop-map f a xs) ∙ ap (drop a) same ∙ drop-map g a xs) ∙ take-map g (b - a) (drop a xs)

with_stays : (old new : List Request) (position : ℕ) (bytes : List ℕ) → KeepsAnswers old new → AnsweredWith old position bytes → AnsweredWith new position bytes
with_stays old new position bytes keeps a = record { request = a.request; there = keeps position a.request _ a.there a.answer; answer = a.answer }

answered_stays : (old new : List Request) (server share offset len position : ℕ) → KeepsAnswers old new → IsAnswerOf old server share offset len position → IsAnswerOf new server share offset len position
answered_stays old new server share offset len position keeps a = record {
  request = a.request;
  there = keeps position a.request _ a.there a.answer;
  of_server = a.of_server;
  asked = a.asked;
  bytes = a.bytes;
  answer = a.answer;
  long = a.long;
}

-- each piece is an answer of its length
abbrev pub HasAnswers : List Request → SupplyState → Type 0
HasAnswers entries s = (k : ℕ) → k < length s.held
    → (bytes : List ℕ) × AnsweredWith entries (get_or s.held k 0) bytes × (length bytes ≡ length_of s.geometry s.first s.end (Data k))

pub has_answers : (entries : List Request) (r : ReaderState) → HoldsAnswers entries r → HasAnswers entries r.supply
has_answers entries r holds k low = let a = holds k low in (a.bytes, record { request = a.request; there = a.there; answer = a.answer }, a.long)

pub holds_as : (entries : List Request) (a b c d : ℕ) (s : SupplyState) → c ≡ a → d ≡ b → HoldsFor entries a b s → HoldsFor entries c d s
holds_as entries a b c d s server share holds = subst (λ n. HoldsFor entries n d s) (sym server) (subst (λ n. HoldsFor entries a n s) (sym share) holds)

pub same_block : (old new : List Request) (s : SupplyState) (number : ℕ) → KeepsAnswers old new → HasAnswers old s
    → block_of new s number ≡ block_of old s number
same_block old new s number keeps held =
    ap (joined_block s.geometry s.first number)
    (map_range (answer_at new) (answer_at old) s.held (block_first s.geometry s.first number) (block_end s.geometry s.first number)
    (map_same (answer_at new) (answer_at old) s.held (λ position among.
    let k = among.0 in
    let a = held k among.1 in
    let same : answer_at new (get_or s.held k 0) ≡ answer_at old (get_or s.held k 0) =
    answer_is new (get_or s.held k 0) a.0 (with_stays old new (get_or s.held k 0) a.0 keeps a.1) ∙ sym (answer_is old (get_or s.held k 0) a.0 a.1) in
    let at : get_or s.held k 0 ≡ position = at_any s.held k position among.1 ∙ among.2 in
    subst (λ (p : ℕ). answer_at new p ≡ answer_at old p) at same)))
  where
    at_any : (xs : List ℕ) (k d : ℕ) → k < length xs → get_or xs k 0 ≡ get_or xs k d
    at_any xs k d low = let e : Some (get_or xs k 0) ≡ Some (get_or xs k d) = sym (slice_get-get_or xs k 0 low) ∙ slice_get-get_or xs k d low in cc

module _ (old new : List Request) (f : FileState) (keeps : KeepsAnswers old new) (read : IsRead old f) where
  one : (number reader : ℕ) (o : Option ReaderState) → slice_get f.readers reader ≡ o → block_in new number o ≡ block_in old number o
  one number reader None at = refl
  one number reader (Some r) at = same_block old new r.supply number keeps (has_answers old r (read.held reader r at))

  pub right_keeps : (reader : ℕ) (r : ReaderState) (number : ℕ) → slice_get f.readers reader ≡ Some r → HasRightBlock old r number → HasRightBlock new r number
  right_keeps reader r number at right = record {
    ready = right.ready;
    proved = right.proved ∙ ap (λ (l : List ℕ). Some (tagged_hash Block l)) (sym (same_block old new r.supply number keeps (has_answers old r (read.held reader r at))));
  }

  made_keeps : (group : GroupState) (number : ℕ) → IsMade old f.handout f.readers group number → IsMade new f.handout f.readers group number
  made_keeps group number made =
      let same : blocks_of new f.readers number group.readers ≡ blocks_of old f.readers number group.readers =
      blocks_same old new f.readers f.readers number group.readers (λ reader in_group. one number reader (slice_get f.readers reader) refl) in
      record {
        right = λ reader r among at. right_keeps reader r number at (made.right reader r among at);
        segment = made.segment;
        decodes = subst (λ (joined : List ℕ). DecodesBlocks f.handout.geometry group.decoding.numbers (blocks_in f.handout.geometry number joined) number made.segment) (sym same) made.decodes;
        proved = made.proved;
      }

  segment_keeps : (group : GroupState) (number : ℕ) (made : IsMade old f.handout f.readers group number) → (made_keeps group number made).segment ≡ made.segment
  unfolding made_keeps
  segment_keeps group number made = refl

  -- a file that is inconsistent stays so
  pub inconsistent_keeps : IsInconsistent old f → IsInconsistent new f
  inconsistent_keeps k =
      let same : blocks_of new f.readers k.number f.live ≡ blocks_of old f.readers k.number f.live =
      blocks_same old new f.readers f.readers k.number f.live (λ reader among. one k.number reader (slice_get f.readers reader) refl) in
      record {
        number = k.number;
        next = k.next;
        enough = k.enough;
        right = λ reader r among at. right_keeps reader r k.number at (k.right reader r among at);
        segment = k.segment;
        decodes = subst (λ (joined : List ℕ). DecodesBlocks f.handout.geometry (numbers_of f.readers f.live) (blocks_in f.handout.geometry k.number joined) k.number k.segment) (sym same) k.decodes;
        refuted = k.refuted;
      }

  pub segment_keeps_made : (number : ℕ) (segment : List ℕ) → IsMadeSegment old f number segment → IsMadeSegment new f number segment
  segment_keeps_made number segment m = record {
    group = m.group;
    among = m.among;
    from = m.from;
    before = m.before;
    made = made_keeps m.group number m.made;
    is = segment_keeps m.group number m.made ∙ m.is;
  }

  pub given_keeps : (p : Piece) → IsGivenBy old f p → IsGivenBy new f p
  given_keeps p g = record { number = g.number; segment = g.segment; made = segment_keeps_made g.number g.segment g.made; slice = g.slice }

  pub read_keeps : IsRead new f
  read_keeps = record {
    held = λ reader r at k low. answered_stays old new _ _ _ _ _ keeps (read.held reader r at k low);
    made = λ group number among from before. made_keeps group number (read.made group number among from before);
    ready = λ p among. given_keeps p (read.ready p among);
  }

pub reads_keep : ReadsStay
reads_keep old new f keeps read = read_keeps old new f keeps read

pub given_keep : GivenStays
given_keep old new f p keeps read g = given_keeps old new f keeps read p g

-- ---- the same file

pub same_itself : (f : FileState) → IsSameFile f f
same_itself f = record {
  key = refl;
  ueb = refl;
  geometry = refl;
  to = refl;
  first = refl;
  end = refl;
  trees = grow_none f.handout.trees;
  readers = grow_same f.readers;
  made = λ entries number segment m. m;
  given = λ entries p g. g;
}

pub same_two : (f g h : FileState) → IsSameFile f g → IsSameFile g h → IsSameFile f h
same_two f g h a b = record {
  key = b.key ∙ a.key;
  ueb = b.ueb ∙ a.ueb;
  geometry = b.geometry ∙ a.geometry;
  to = b.to ∙ a.to;
  first = b.first ∙ a.first;
  end = b.end ∙ a.end;
  trees = grow_trees f.handout.trees g.handout.trees h.handout.trees a.trees b.trees;
  readers = grow_two f.readers g.readers h.readers a.readers b.readers;
  made = λ entries number segment made. b.made entries number segment (a.made entries number segment made);
  given = λ entries p given. b.given entries p (a.given entries p given);
}

-- ---- the root of a block tree

pub tells_still : (p q : PartialState) (share : ℕ) (tree : Option PartialState) → KnowsAllOf p q → TellsRoot p share tree → TellsRoot q share tree
tells_still p q share None grows tells = tells
tells_still p q share (Some tree) grows tells = leaf_stays p q share tree.root grows tells
