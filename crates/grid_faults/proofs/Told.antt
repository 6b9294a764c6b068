-- Paths as they are told, letter by letter.
use Rattle.std.proofs.Common.{◌≡◌, ◌∙◌, ℕ, List, [], ◌∷◌, ◌++◌, ap, map, encode_utf8}
use Rattle.std.specs.Str.{encode_utf8_all}
use Rattle.std.proofs.lemmas.List.{append-nil, map_push}
use Rattle.std.proofs.lemmas.Str.{encodes-append}
use Rattle.grid_faults.specs.ToldPath.{told_char}

-- one letter more
pub told_more : (letters : List ℕ) (letter : ℕ)
    → encode_utf8_all (map told_char (letters ++ letter ∷ []))
    ≡ encode_utf8_all (map told_char letters) ++ encode_utf8 (told_char letter)
told_more letters letter =
    ap encode_utf8_all (map_push told_char letters letter)
    ∙ encodes-append (map told_char letters) (told_char letter ∷ [])
    ∙ ap (λ (x : List ℕ). encode_utf8_all (map told_char letters) ++ x)
    (append-nil (encode_utf8 (told_char letter)))
