-- A text that is cut at its last slash.
use Rattle.std.proofs.Common.{◌≡◌, ℕ, ◌+◌, ◌<◌, List, ◌∷◌, ◌++◌, length, get_or, take, drop, Some, None, Contains, ap, sym, ◌∙◌, arith}
use Rattle.std.specs.Str.Pattern.{RFindsChar}
use Rattle.std.specs.Path.{slash}
use Rattle.std.proofs.lemmas.List.{drop_more, get_or_default, take-append-drop}
use Rattle.std.proofs.lemmas.Str.{len_utf8_ascii}
use Rattle.std.proofs.lemmas.Str.Pattern.{NoCharPasses-char}

pub none_has : (text : List ℕ) → RFindsChar slash text None → ¬ Contains text slash
none_has text none c = NoCharPasses-char slash text c.0 none (omega arith) c.1 (get_or_default text c.0 0 slash c.1 ∙ c.2)

pub record IsCut (text before name : List ℕ) : Type 0 where
  pub no_slash : ¬ Contains name slash
  pub is : text ≡ before ++ slash ∷ name

pub cut : (text before name : List ℕ) (i j : ℕ) → RFindsChar slash text (Some (i, j)) → before ≡ take i text → name ≡ drop j text → length name + j ≡ length text → IsCut text before name
cut text before name i j found first second size =
    let next : j ≡ i + 1 = omega (arith, found.1.ends, len_utf8_ascii slash (omega arith)) in
    let inside : i < length text = omega (arith, next, size) in
    record {
      no_slash = λ c.
          let same : get_or (drop j text) c.0 slash ≡ slash = ap (λ (t : List ℕ). get_or t c.0 slash) (sym second) ∙ c.2 in
          let there : c.0 < length (drop j text) = omega (arith, c.1, ap length second) in
          NoCharPasses-char slash (drop j text) c.0 found.0 (omega arith) there (get_or_default (drop j text) c.0 0 slash there ∙ same);
      is =
          sym (take-append-drop i text)
          ∙ ap (λ (t : List ℕ). take i text ++ t) (drop_more text i 0 inside)
          ∙ (λ p. take i text ++ found.1.byte (omega arith) p ∷ drop (sym next p) text)
          ∙ λ p. sym first p ++ slash ∷ sym second p;
    }
