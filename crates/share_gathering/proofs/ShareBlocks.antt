-- Shares with more blocks.
use Rattle.std.proofs.Common.{◌≡◌, ℕ, zero, suc, ◌+◌, ◌-◌, ◌*◌, ◌<◌, ◌≤◌, ◌≢◌, List, [], ◌∷◌, ◌++◌, length, take, drop, map, get_or, Some, refl, inl, inr, ap, sym, subst, ◌∙◌, arith}
use Rattle.std.specs.Prelude.{slice_get}
use Rattle.std.proofs.Math.ListN.{set, length-set}
use Rattle.std.proofs.lemmas.Bool.{cases_eq, cases_lt}
use Rattle.std.proofs.lemmas.List.{length-append, length-drop, length-take-le}
use Rattle.std.proofs.lemmas.Option.{same_Some, slice_get-get_or, slice_get_within}
use borrow.Rule.Slice.PartMut.{put_mid}
use Rattle.lemmas.proofs.Positions.{get_pushed, get_set, get_set_other}
use Rattle.tagged_hash.specs.TaggedHash.{tagged_hash}
use Rattle.tagged_hash.specs.declared.tag.Tag.TheVariants.{Block}
use Rattle.share_layout.specs.Pieces.{pieces}
use Rattle.tagged_hash.specs.Wholes.{AreGiven}
use Rattle.tagged_hash.specs.declared.wholes.WholeHashers.{WholeHashers}
use Rattle.share_gathering.specs.Gathered.{Gathered}
use Rattle.share_gathering.specs.Shares.{HasBlocksMore, HaveBecome, HaveBlocksMore, HaveWholesMore, HoldShares}
use Rattle.share_gathering.specs.declared.shares.ShareSoFar.{ShareSoFar}

-- the first of these have become what they are now, and the others stand as they were
pub record HaveSoFar {X : Type 0} (By : ℕ → X → X → Type 0) (old now : List X) (done : ℕ) : Type 0 where
  pub count : length now ≡ length old
  pub added : (i : ℕ) (before after : X) → i < done → slice_get old i ≡ Some before → slice_get now i ≡ Some after → By i before after
  pub same : (i : ℕ) → done ≤ i → slice_get now i ≡ slice_get old i

pub so_far-none : {X : Type 0} (By : ℕ → X → X → Type 0) (old : List X) → HaveSoFar By old old 0
so_far-none By old = record { count = refl; added = λ i before after low was is. absurd (omega (arith, low)); same = λ i high. refl }

pub so_far-more : {X : Type 0} (By : ℕ → X → X → Type 0) (old now : List X) (done : ℕ) (x next : X) → HaveSoFar By old now done → done < length now
    → slice_get now done ≡ Some x → By done x next → HaveSoFar By old (set now done next) (done + 1)
so_far-more By old now done x next far within here more = record {
  count = length-set now done next ∙ far.count;
  added = λ i before after low was is. elim (cases_eq i done) [
    | inl e ↦ (let b : x ≡ before = same_Some x before (sym here ∙ far.same done (omega arith) ∙ ap (slice_get old) (sym e) ∙ was) in
        let a : next ≡ after = same_Some next after (sym (get_set now done next x here) ∙ ap (slice_get (set now done next)) (sym e) ∙ is) in
        subst (λ n. By n before after) (sym e) (subst (λ y. By done y after) b (subst (By done x) a more)))
    | inr apart ↦ far.added i before after (omega (arith, low, apart)) was (sym (get_set_other now done i next apart) ∙ is)
  ];
  same = λ i high. let apart : i ≢ done = omega (arith, high) in get_set_other now done i next apart ∙ far.same i (omega (arith, high));
}

pub so_far-all : {X : Type 0} (By : ℕ → X → X → Type 0) (old now : List X) (done : ℕ) → HaveSoFar By old now done → length now ≤ done → HaveBecome By old now
so_far-all By old now done far over = record {
  count = far.count;
  each = λ i before after was is. far.added i before after (omega (arith, over, slice_get_within now i after is)) was is;
}

-- ---- a group of shares

get_front : {X : Type 0} (xs ys : List X) (i : ℕ) → i < length xs → slice_get (xs ++ ys) i ≡ slice_get xs i
get_front [] ys i low = absurd (omega (arith, low))
get_front (x ∷ xs) ys zero low = refl
get_front (x ∷ xs) ys (suc i) low = get_front xs ys i (omega (arith, low))

get_behind : {X : Type 0} (xs ys : List X) (n i : ℕ) → n ≡ length xs + i → slice_get (xs ++ ys) n ≡ slice_get ys i
get_behind [] ys n i is = (let e : n ≡ i = omega (arith, is) in ap (slice_get ys) e)
get_behind (x ∷ xs) ys zero i is = absurd (omega (arith, is))
get_behind (x ∷ xs) ys (suc n) i is = get_behind xs ys n i (omega (arith, is))

get_drop : {X : Type 0} (k : ℕ) (xs : List X) (i : ℕ) → slice_get (drop k xs) i ≡ slice_get xs (k + i)
get_drop zero xs i = let e : i ≡ 0 + i = omega arith in ap (slice_get xs) e
get_drop (suc k) [] i = refl
get_drop (suc k) (x ∷ xs) i = get_drop k xs i ∙ (let e : suc (k + i) ≡ suc k + i = omega arith in ap (slice_get (x ∷ xs)) e)

get_take : {X : Type 0} (k : ℕ) (xs : List X) (i : ℕ) → i < k → slice_get (take k xs) i ≡ slice_get xs i
get_take zero xs i low = absurd (omega (arith, low))
get_take (suc k) [] i low = refl
get_take (suc k) (x ∷ xs) zero low = refl
get_take (suc k) (x ∷ xs) (suc i) low = get_take k xs i (omega (arith, low))

-- a group more has its blocks
module _ (leaves size : ℕ) (rows : ℕ → List ℕ) (old now group : List ShareSoFar) (done count : ℕ) (within : done + count ≤ length now) where
  abbrev next : List ShareSoFar
  next = put_mid done count now group

  before_group : length (take done now) ≡ done
  before_group = length-take-le done now (omega (arith, within))

  -- the same blocks by other words
  pub same_blocks : (lanes : ℕ → List ℕ) → ((i : ℕ) → i < count → lanes i ≡ rows (done + i)) → HaveBlocksMore leaves size lanes (take count (drop done now)) group
      → HaveBlocksMore leaves size (λ i. rows (done + i)) (take count (drop done now)) group
  same_blocks lanes are more = record {
    count = more.count;
    each = λ i before after was is.
        let low : i < count = omega (arith, slice_get_within (take count (drop done now)) i before was, length-take-le count (drop done now) (omega (arith, within, length-drop done now))) in
        subst (λ (d : List ℕ). after.leaves.items ≡ before.leaves.items ++ map (tagged_hash Block) (pieces leaves size d)) (are i low) (more.each i before after was is);
  }

  pub so_far-group : HaveSoFar (HasBlocksMore leaves size rows) old now done → HaveBlocksMore leaves size (λ i. rows (done + i)) (take count (drop done now)) group
      → HaveSoFar (HasBlocksMore leaves size rows) old next (done + count)
  so_far-group far more =
      let front : List ShareSoFar = take done now in
      let behind : List ShareSoFar = drop count (drop done now) in
      let long : length group ≡ count = more.count ∙ length-take-le count (drop done now) (omega (arith, within, length-drop done now)) in
      let total : length next ≡ length now =
      length-append front (group ++ behind) ∙ omega (arith, before_group, length-append group behind, long, length-drop count (drop done now), length-drop done now, within) in
      let low : (i : ℕ) → i < done → slice_get next i ≡ slice_get now i =
      λ i below. get_front front (group ++ behind) i (omega (arith, below, before_group)) ∙ get_take done now i below in
      let mid : (j : ℕ) → j < count → slice_get next (done + j) ≡ slice_get group j =
      λ j below. get_behind front (group ++ behind) (done + j) j (omega (arith, before_group)) ∙ get_front group behind j (omega (arith, below, long)) in
      let high : (i j : ℕ) → i ≡ done + count + j → slice_get next i ≡ slice_get now i =
      λ i j is.
      get_behind front (group ++ behind) i (count + j) (omega (arith, before_group, is)) ∙ get_behind group behind (count + j) j (omega (arith, long))
      ∙ get_drop count (drop done now) j ∙ get_drop done now (count + j) ∙ (let e : done + (count + j) ≡ i = omega (arith, is) in ap (slice_get now) e) in
      record {
        count = total ∙ far.count;
        added = λ i before after below was is. elim (cases_lt i done) [
          | inl first ↦ far.added i before after first was (sym (low i first) ∙ is)
          | inr later ↦ (let j : ℕ = i - done in
              let at : done + j ≡ i = omega (arith, later) in
              let inside : j < count = omega (arith, below, later) in
              let there : slice_get (take count (drop done now)) j ≡ Some before =
              get_take count (drop done now) j inside ∙ get_drop done now j ∙ ap (slice_get now) at ∙ far.same i later ∙ was in
              let here : slice_get group j ≡ Some after = sym (mid j inside) ∙ ap (slice_get next) at ∙ is in
              subst (λ n. HasBlocksMore leaves size rows n before after) at (more.each j before after there here))
        ];
        same = λ i above. high i (i - (done + count)) (omega (arith, above)) ∙ far.same i (omega (arith, above));
      }

-- one share more
pub held-push : (s : Gathered) (shares : List ShareSoFar) (share : ShareSoFar) → HoldShares s shares → ((i : ℕ) → share.leaves.items ≡ s.block_leaves i)
    → HoldShares s (shares ++ share ∷ [])
held-push s shares share held new i other is =
    elim (get_pushed shares share other i is) [ inl before ↦ held i other before | inr last ↦ subst (λ (x : ShareSoFar). x.leaves.items ≡ s.block_leaves i) last.1 (new i) ]

-- one block more for the hasher of each share
pub given-more : (total n : ℕ) (written block : ℕ → List ℕ) (old new : List WholeHashers) → n ≡ total → HaveWholesMore n block old new → AreGiven total written old
    → AreGiven total (λ i. written i ++ block i) new
given-more total n written block old new same more held k j whole low within is =
    let there : k < length old = omega (arith, slice_get_within new k whole is, more.count) in
    let before : WholeHashers = get_or old k whole in
    let was : slice_get old k ≡ Some before = slice_get-get_or old k whole there in
    more.each k before whole was is j (written (7 * k + j)) low (omega (arith, within, same)) (held k j before low within was)
