-- The parts of a text between its colons.
use Rattle.std.proofs.Common.{◌≡◌, ℕ, ◌+◌, ◌-◌, ◌<◌, ◌≤◌, List, [], ◌∷◌, ◌++◌, length, get_or, take, drop, sym, ap, ◌∙◌, arith, eqb}
use Rattle.std.proofs.lemmas.Bool.{ne_eqb, eq-eqb}
use Rattle.std.proofs.lemmas.List.{take-append-drop, drop_more, take_rest, length-take-le, get_or-take, get_or_default}
use Rattle.std.proofs.lemmas.List.Splits.{slice_split_none, slice_split_at, length-slice_split}
use Rattle.cap_text.specs.CapText.{parts}

-- a text without a colon is one part
pub parts_none : (text : List ℕ) (n : ℕ) → length text ≤ n → ((k : ℕ) → k < n → get_or text k 0 ≡ 58 → ⊥) → parts text ≡ text ∷ []
parts_none text n all none =
    slice_split_none (λ c. eqb c 58) text (λ k d inside. ne_eqb (get_or text k d) 58 (λ colon. none k (omega arith) (get_or_default text k 0 d inside ∙ colon)))

-- the first part ends at the first colon
pub parts_first : (text : List ℕ) (i : ℕ) → i < length text → ((k : ℕ) → k < i → get_or text k 0 ≡ 58 → ⊥) → get_or text i 0 ≡ 58
    → parts text ≡ take i text ∷ parts (take (length text - (i + 1)) (drop (i + 1) text))
parts_first text i within none colon =
    let cut : text ≡ take i text ++ get_or text i 0 ∷ drop (i + 1) text =
    sym (take-append-drop i text) ∙ ap (λ (rest : List ℕ). take i text ++ rest) (drop_more text i 0 within) in
    let size : length (take i text) ≡ i = length-take-le i text (omega arith) in
    ap parts cut
    ∙ slice_split_at (λ c. eqb c 58) (take i text) (get_or text i 0) (drop (i + 1) text)
    (λ k d inside. ne_eqb (get_or (take i text) k d) 58
    (λ colon. none k (omega (arith, size)) (get_or_default text k 0 d (omega (arith, size)) ∙ sym (get_or-take i text k d (omega (arith, size))) ∙ colon)))
    (eq-eqb (get_or text i 0) 58 colon)
    ∙ ap (λ (rest : List ℕ). take i text ∷ parts rest) (sym (take_rest text (i + 1)))

-- there is a part
pub parts_some : (text : List ℕ) → 0 < length (parts text)
parts_some text = omega (arith, length-slice_split (λ c. eqb c 58) text)
