-- Lines of operations, one after the other.
use Rattle.std.proofs.Common.{◌≡◌, ℕ, suc, ◌+◌, ◌<◌, List, [], ◌∷◌, ◌++◌, length, get_or, take, sym, ap, ◌∙◌, arith, append_assoc}
use Rattle.std.proofs.lemmas.List.{append-nil, take_more, length-take-le}
use Rattle.world_operations.specs.declared.operation.Operation.{Operation}
use Rattle.world_script.specs.Telling.{lines_from, operation_line}

-- one more operation
lines_push : (n : ℕ) (ops : List Operation) (op : Operation) → lines_from n (ops ++ op ∷ []) ≡ lines_from n ops ++ operation_line (n + length ops) op
lines_push n [] op = (let e : n ≡ n + 0 = omega arith in append-nil (operation_line n op) ∙ ap (λ (i : ℕ). operation_line i op) e)
lines_push n (o ∷ ops) op =
    let at : (n + 1) + length ops ≡ n + suc (length ops) = omega arith in
    ap (λ (more : List ℕ). operation_line n o ++ more) (lines_push (n + 1) ops op)
    ∙ sym (append_assoc (operation_line n o) (lines_from (n + 1) ops) (operation_line ((n + 1) + length ops) op))
    ∙ ap (λ (i : ℕ). (operation_line n o ++ lines_from (n + 1) ops) ++ operation_line i op) at

pub lines_more : (ops : List Operation) (n : ℕ) (op : Operation) → n < length ops → op ≡ get_or ops n op → lines_from 0 (take (n + 1) ops) ≡ lines_from 0 (take n ops) ++ operation_line n op
lines_more ops n op low at =
    let len : length (take n ops) ≡ n = length-take-le n ops (omega (arith, low)) in
    let number : 0 + length (take n ops) ≡ n = omega (arith, len) in
    ap (λ (l : List Operation). lines_from 0 l) (take_more ops n op low)
    ∙ lines_push 0 (take n ops) (get_or ops n op)
    ∙ ap (λ (o : Operation). lines_from 0 (take n ops) ++ operation_line (0 + length (take n ops)) o) (sym at)
    ∙ ap (λ (i : ℕ). lines_from 0 (take n ops) ++ operation_line i op) number
