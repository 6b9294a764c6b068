-- Blocks that stand one after another, and the segment that they decode to.
use Rattle.std.proofs.Common.{◌≡◌, ℕ, zero, suc, ◌+◌, ◌*◌, ◌<◌, ◌≤◌, All, List, [], ◌∷◌, ◌++◌, length, take, drop, refl, ap, subst, sym, ◌∙◌, arith}
use Rattle.std.proofs.Math.Nat.{suc-mul}
use Rattle.std.proofs.lemmas.List.{drop-drop, length-drop, length-take}
use Rattle.std.proofs.lemmas.List.Elements.{All-cons, All-nil, All-weaker}
use Rattle.proved_parts.proofs.Files.{length-pieces}
use Rattle.zfec_code.specs.Shares.{HaveSize}
use Rattle.zfec_code.proofs.ShareBlocks.{primaries_unique}
use Rattle.share_layout.specs.Pieces.{pieces, segment_length}
use Rattle.download_segments.specs.Laws.{SegmentsAreUnique}

-- one more block
pub pieces_more : (n size : ℕ) (text : List ℕ) → pieces (suc n) size text ≡ pieces n size text ++ take size (drop (n * size) text) ∷ []
pieces_more zero size text = let none : 0 * size ≡ 0 = omega arith in rw none refl
pieces_more (suc n) size text =
    ap (λ (l : List (List ℕ)). take size text ∷ l)
    (pieces_more n size (drop size text)
    ∙ ap (λ (l : List ℕ). pieces n size (drop size text) ++ take size l ∷ [])
    (drop-drop (n * size) size text ∙ ap (λ (k : ℕ). drop k text) (sym (suc-mul n size ∙ omega arith))))

-- the blocks have one length
pieces_alike : (n size : ℕ) (text : List ℕ) → length text ≡ n * size → All (λ (b : List ℕ). length b ≡ size) (pieces n size text)
pieces_alike zero size text long = All-nil (λ (b : List ℕ). length b ≡ size)
pieces_alike (suc n) size text long =
    let whole : length text ≡ n * size + size = long ∙ suc-mul n size in
    All-cons (λ (b : List ℕ). length b ≡ size) (take size text) (pieces n size (drop size text))
    (length-take size text ∙ omega (arith, whole))
    (pieces_alike n size (drop size text) (length-drop size text ∙ omega (arith, whole)))

pub have_size : (k size : ℕ) (joined : List ℕ) (blocks : List (List ℕ)) (out : ℕ) → blocks ≡ pieces k size joined
    → length joined ≡ k * size → out ≡ length joined → HaveSize k size blocks out
have_size k size joined blocks out is long same = record {
  count = ap (λ (l : List (List ℕ)). length l) is ∙ length-pieces k size joined;
  alike = subst (All (λ (b : List ℕ). length b ≡ size)) (sym is) (pieces_alike k size joined long);
  whole = same ∙ long;
}

-- the same blocks decode to one segment
pub unique : SegmentsAreUnique
unique g numbers blocks number s t valid shares first second =
    let few : g.needed ≤ 256 = omega (arith, valid.enough, valid.shares) in
    let small : All (λ i. i < 256) numbers = All-weaker (λ n. n < g.total) (λ n. n < 256) (λ n low. omega (arith, low, valid.shares)) numbers shares.below in
    let same : first.padded ≡ second.padded = primaries_unique g.needed first.padded second.padded numbers blocks valid.some_needed few shares.enough small shares.distinct first.shares second.shares in
    first.cut ∙ ap (take (segment_length g number)) same ∙ sym second.cut
