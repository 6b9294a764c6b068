use Rattle.std.proofs.Common.{◌≡◌, ℕ, ◌<◌, List, [], ◌∷◌, ◌++◌, Bor, length, map, take, get_or, ap, subst, sym, ◌∙◌}
use Rattle.std.proofs.lemmas.List.{get_or-map, length-map, map-append, take_more}
use Rattle.world_script.specs.Script.{kind_name}
use Rattle.world_script.proofs.Naming.{kind_at}
use Rattle.world_script.proofs.nodes.read_kinds.Goals as goal

pub loop-word-preserved : goal.loop-word-preserved
loop-word-preserved c =
    let now : Bor (List ℕ) → List ℕ = λ w. w.now in
    let words : List (Bor (List ℕ)) = c.args.words.now in
    let i : ℕ = c.loop-word.word-index in
    let lt : i < length (map now words) = subst (λ n. i < n) (sym (length-map words now)) c.loop-word-test.true in
    let kind = c.in-Some.kind in
    let same : get_or (map now words) i [] ≡ kind_name kind = get_or-map now words i _ [] c.loop-word-test.true ∙ c.in-Some.ensures.value in
    ap (map kind_name) c.in_ok-push-in-Some.ensures.items ∙ map-append kind_name c.loop-word.kinds.items (kind ∷ [])
    ∙ ap (λ (l : List (List ℕ)). l ++ kind_name kind ∷ []) c.loop-word.invariant
    ∙ ap (λ (w : List ℕ). take i (map now words) ++ w ∷ []) (sym same) ∙ sym (take_more (map now words) i [] lt)

pub returns-in-None-clause-none : goal.returns-in-None-clause-none
returns-in-None-clause-none c = λ refused kinds names.
    let now : Bor (List ℕ) → List ℕ = λ w. w.now in
    let words : List (Bor (List ℕ)) = c.args.words.now in
    let i : ℕ = c.loop-word.word-index in
    let lt : i < length (map now words) = subst (λ n. i < n) (sym (length-map words now)) c.loop-word-test.true in
    let at = kind_at kinds (map now words) i lt names in
    c.in-None.ensures.none at.0 (sym (get_or-map now words i _ [] c.loop-word-test.true) ∙ at.1)
