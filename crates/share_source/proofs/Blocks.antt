-- Blocks that stand one after another.
use Rattle.std.proofs.Common.{◌≡◌, ℕ, zero, suc, ◌+◌, ◌-◌, ◌*◌, ◌≤◌, All, List, [], ◌∷◌, ◌++◌, length, take, drop, refl, ap, subst, sym, ◌∙◌, arith}
use Rattle.std.proofs.Math.Nat.{suc-mul}
use Rattle.std.proofs.lemmas.List.{drop-take, length-drop, length-take, take-take}
use Rattle.std.proofs.lemmas.List.Elements.{All-cons, All-nil}
use Rattle.std.proofs.lemmas.Slice.{between-put_mid}
use borrow.Rule.Slice.PartMut.{put_mid, take_put}
use Rattle.share_gathering.proofs.GroupSteps.{pieces-more}
use Rattle.zfec_code.specs.Shares.{AreSharesOf, HaveSize}
use Rattle.share_layout.specs.Pieces.{pieces}
use Rattle.proved_parts.proofs.Files.{length-pieces}

-- they have one length
pub pieces_alike : (n size : ℕ) (text : List ℕ) → n * size ≤ length text → All (λ (b : List ℕ). length b ≡ size) (pieces n size text)
pieces_alike zero size text long = All-nil (λ (b : List ℕ). length b ≡ size)
pieces_alike (suc n) size text long =
    let whole : n * size + size ≤ length text = omega (arith, suc-mul n size, long) in
    All-cons (λ (b : List ℕ). length b ≡ size) (take size text) (pieces n size (drop size text)) (length-take size text ∙ omega (arith, whole))
    (pieces_alike n size (drop size text) (omega (arith, length-drop size text, whole)))

pub have_size : (k size out : ℕ) (joined : List ℕ) → k * size ≤ length joined → out ≡ k * size → HaveSize k size (pieces k size joined) out
have_size k size out joined room long = record { count = length-pieces k size joined; alike = pieces_alike k size joined room; whole = long }

-- they are those of another text that begins alike
pieces_front : (n size : ℕ) (xs ys : List ℕ) → take (n * size) xs ≡ take (n * size) ys → pieces n size xs ≡ pieces n size ys
pieces_front zero size xs ys e = refl
pieces_front (suc n) size xs ys e =
    let whole : size + n * size ≡ suc n * size = omega (arith, suc-mul n size) in
    let all : take (size + n * size) xs ≡ take (size + n * size) ys = ap (λ m. take m xs) whole ∙ e ∙ sym (ap (λ m. take m ys) whole) in
    let front : take size xs ≡ take size ys = sym (take-take size (size + n * size) xs (omega arith)) ∙ ap (take size) all ∙ take-take size (size + n * size) ys (omega arith) in
    let rest : take (n * size) (drop size xs) ≡ take (n * size) (drop size ys) = sym (drop-take size (n * size) xs) ∙ ap (drop size) all ∙ drop-take size (n * size) ys in
    (λ i. front i ∷ pieces_front n size (drop size xs) (drop size ys) rest i)

-- a block more was written behind the others
pub blocks_more : (i size end : ℕ) (joined block : List ℕ) → i * size ≤ length joined → end - i * size ≡ size → length block ≡ size
    → pieces (i + 1) size (put_mid (i * size) (end - i * size) joined block) ≡ pieces i size joined ++ block ∷ []
blocks_more i size end joined block room is long =
    let more : List ℕ = put_mid (i * size) (end - i * size) joined block in
    let last : take size (drop (i * size) more) ≡ block =
    ap (λ n. take n (drop (i * size) more)) (sym is) ∙ between-put_mid (i * size) (end - i * size) joined block end room (long ∙ sym is) in
    pieces-more i size more
    ∙ (λ p. pieces_front i size more joined (take_put (i * size) (end - i * size) joined block room) p ++ last p ∷ [])

-- the same by other words
pub shares_by : (k k' : ℕ) (text text' numbers numbers' : List ℕ) (blocks blocks' : List (List ℕ)) → k ≡ k' → text ≡ text' → numbers ≡ numbers' → blocks ≡ blocks'
    → AreSharesOf k text numbers blocks → AreSharesOf k' text' numbers' blocks'
shares_by k k' text text' numbers numbers' blocks blocks' count is are those shares =
    subst (λ n. AreSharesOf n text' numbers' blocks') count
    (subst (λ (t : List ℕ). AreSharesOf k t numbers' blocks') is
    (subst (λ (ns : List ℕ). AreSharesOf k text ns blocks') are
    (subst (λ (bs : List (List ℕ)). AreSharesOf k text numbers bs) those shares)))
