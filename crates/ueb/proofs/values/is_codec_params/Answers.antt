use Rattle.std.proofs.Common.{◌≡◌, ◌∷◌, ◌++◌, ◌∙◌, ap, List, ℕ, decimal}
use Rattle.ueb.proofs.ValueTexts.{behind_dash}
use Rattle.ueb.proofs.values.is_codec_params.Goals as goal

pub returns-in_default-strip_number : goal.returns-in_default-strip_number
returns-in_default-strip_number c = (
  (λ t. absurd (cc t)),
  (λ e. absurd (c.in_default-strip_number.ensures.none (decimal c.args.total)
      (behind_dash c.args.text.now (decimal c.args.size) c.in-Some.rest.now (decimal c.args.needed ++ 45 ∷ decimal c.args.total) c.in-Some.ensures.found e))),
)

pub returns : goal.returns
returns c =
    let first : c.args.text.now ≡ decimal c.args.size ++ 45 ∷ c.in-Some.rest.now = c.in-Some.ensures.found in
    let second : c.in-Some.rest.now ≡ decimal c.args.needed ++ 45 ∷ c.in-Some-strip_number.rest.now = c.in-Some-strip_number.ensures.found in
    let third = c.is_number.ensures in (
      (λ t. first ∙ ap (λ (x : List ℕ). decimal c.args.size ++ 45 ∷ x) (second ∙ ap (λ (x : List ℕ). decimal c.args.needed ++ 45 ∷ x) (third.0 t))),
      (λ e. third.1 (behind_dash c.in-Some.rest.now (decimal c.args.needed) c.in-Some-strip_number.rest.now (decimal c.args.total) second
          (behind_dash c.args.text.now (decimal c.args.size) c.in-Some.rest.now (decimal c.args.needed ++ 45 ∷ decimal c.args.total) first e))),
    )
