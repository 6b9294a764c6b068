-- The blocks of a share, one after another.
use Rattle.std.proofs.Common.{◌≡◌, ℕ, zero, suc, ◌+◌, ◌-◌, ◌*◌, ◌<◌, ◌≤◌, List, [], ◌∷◌, ◌++◌, length, take, drop, min, get_or, map, ap, sym, ◌∙◌, arith}
use Rattle.std.proofs.Math.ListN.{get_or-map, set}
use Rattle.std.proofs.Math.Seq.{map-set_same}
use Rattle.std.proofs.lemmas.Grind.{flat_map-append}
use Rattle.std.proofs.lemmas.List.{append-nil, length-append, length-set, take-append-drop, take_more_set}
use Rattle.share_verify.specs.Pieces.{joined}

-- the blocks up to one, that among them
pub joined-set : (blocks : List (List ℕ)) (n : ℕ) (block : List ℕ) → n < length blocks → joined (take (n + 1) (set blocks n block)) ≡ joined (take n blocks) ++ block
joined-set blocks n block within =
    ap joined (take_more_set blocks n block within) ∙ flat_map-append (λ (l : List ℕ). l) (take n blocks) (block ∷ [])
    ∙ ap (λ (l : List ℕ). joined (take n blocks) ++ l) (append-nil block)

pub joined-halves : (blocks : List (List ℕ)) (n : ℕ) → joined (take n blocks) ++ joined (drop n blocks) ≡ joined blocks
joined-halves blocks n = sym (flat_map-append (λ (l : List ℕ). l) (take n blocks) (drop n blocks)) ∙ ap joined (take-append-drop n blocks)

-- each of them has this size, but what is left of the whole in the end
abbrev pub HaveSize : ℕ → ℕ → List (List ℕ) → Type 0
HaveSize size whole blocks = (i : ℕ) → i < length blocks → length (get_or blocks i []) ≡ min size (whole - i * size)

pub length-front : (size whole : ℕ) (blocks : List (List ℕ)) (n : ℕ) → HaveSize size whole blocks → n ≤ length blocks → length (joined (take n blocks)) ≡ min (n * size) whole
length-front size whole blocks zero have low = omega arith
length-front size whole [] (suc n) have low = absurd (omega arith)
length-front size whole (b ∷ bs) (suc n) have low =
    let rest : HaveSize size (whole - size) bs =
    λ i within. have (suc i) (omega (arith, within)) ∙ (let e : min size (whole - suc i * size) ≡ min size (whole - size - i * size) = omega arith in e) in
    let left = length-front size (whole - size) bs n rest (omega (arith, low)) in
    let head : length b ≡ min size whole = have 0 (omega arith) ∙ (let e : min size (whole - 0 * size) ≡ min size whole = omega arith in e) in
    length-append b (joined (take n bs)) ∙ omega (arith, head, left)

-- one block of the same size in the place of another
pub size-set : (size whole : ℕ) (blocks : List (List ℕ)) (n : ℕ) (block : List ℕ) → HaveSize size whole blocks → length block ≡ length (get_or blocks n [])
    → HaveSize size whole (set blocks n block)
size-set size whole blocks n block have same i within =
    let all : map length (set blocks n block) ≡ map length blocks = map-set_same length blocks n block [] same in
    let inside : i < length blocks = omega (arith, within, length-set blocks n block) in
    sym (get_or-map length (set blocks n block) i []) ∙ ap (λ (l : List ℕ). get_or l i 0) all ∙ get_or-map length blocks i [] ∙ have i inside
