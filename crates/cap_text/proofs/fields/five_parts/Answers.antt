use Rattle.std.proofs.Common.{List, ℕ, ◌∷◌, ap, ◌∙◌}
use Rattle.cap_text.proofs.FieldLemmas.{six_parts}
use Rattle.cap_text.proofs.fields.five_parts.Goals as goal

pub returns-in-Some : goal.returns-in-Some
returns-in-Some c =
    let a = c.in_ok-first.first.now in
    let b = c.in_ok-ueb_hash.ueb_hash.now in
    let n = c.in_ok-needed.needed.now in
    let t = c.in_ok-total.total.now in
    six_parts c.args.text.now a b n t c.in-Some.field-0.0.now c.in-Some.field-0.1.now
    (c.in_ok-first.ensures ∙ ap (λ (ps : List (List ℕ)). a ∷ ps) (c.in_ok-ueb_hash.ensures ∙ ap (λ (ps : List (List ℕ)). b ∷ ps)
    (c.in_ok-needed.ensures ∙ ap (λ (ps : List (List ℕ)). n ∷ ps) (c.in_ok-total.ensures ∙ ap (λ (ps : List (List ℕ)). t ∷ ps) c.in-Some.ensures))))
