-- How a line is put into a greeting.
use Rattle.std.proofs.Common.{◌≡◌, ℕ, ◌+◌, ◌-◌, ◌≤◌, List, ◌++◌, length, ap, ◌∙◌, arith, replicate}
use Rattle.std.proofs.lemmas.List.{drop-replicate, length-append}
use borrow.Rule.Slice.PartMut.{put_mid}
use Rattle.connections.specs.Greetings.{greeting_with, version}

-- a line takes the place of spaces behind the version
put_spaces : (line : List ℕ) → length line ≤ 50
    → put_mid 14 (14 + length line - 14) (version ++ replicate 50 32) line ≡ greeting_with line
put_spaces line few =
    let room : 50 - (14 + length line - 14) ≡ 64 - length (version ++ line) = omega (arith, length-append version line) in
    let spaces : ℕ → List ℕ = λ n. replicate n 32 in
    ap (λ (rest : List ℕ). version ++ (line ++ rest)) (drop-replicate (14 + length line - 14) 50 32 ∙ ap spaces room)

pub put_line : (line front put : List ℕ) → length line ≤ 50 → front ≡ version → put ≡ line
    → put_mid 14 (14 + length line - 14) (front ++ replicate 50 32) put ≡ greeting_with line
put_line line front put few front-is put-is =
    ap (λ (xs : List ℕ). put_mid 14 (14 + length line - 14) (xs ++ replicate 50 32) put) front-is
    ∙ ap (put_mid 14 (14 + length line - 14) (version ++ replicate 50 32)) put-is
    ∙ put_spaces line few
