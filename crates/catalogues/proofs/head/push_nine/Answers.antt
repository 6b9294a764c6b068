use Rattle.std.proofs.Common.{◌≡◌, ℕ, ◌+◌, List, ◌∷◌, ◌++◌, length, drop, ap, ◌∙◌, arith}
use Rattle.std.specs.Fmt.{decimal}
use Rattle.catalogues.specs.Heads.{nine_digits}
use Rattle.catalogues.proofs.HeadLaws.{nine_is}
use Rattle.catalogues.proofs.head.push_nine.Goals as goal

pub split_at-requires : goal.split_at-requires
split_at-requires c =
    let is : c.as_bytes.result.now ≡ 49 ∷ nine_digits c.args.n =
    c.as_bytes.ensures ∙ c.new-padded.ensures ∙ ap (λ (m : ℕ). decimal (1000000000 + m)) c.from.ensures ∙ nine_is c.args.n c.requires in
    omega (arith, ap length is)

pub returns : goal.returns
returns c =
    let is : c.as_bytes.result.now ≡ 49 ∷ nine_digits c.args.n =
    c.as_bytes.ensures ∙ c.new-padded.ensures ∙ ap (λ (m : ℕ). decimal (1000000000 + m)) c.from.ensures ∙ nine_is c.args.n c.requires in
    c.in_ok-extend_from_slice.ensures.items ∙ ap (λ (ds : List ℕ). c.args.text.now.items ++ ds) (c.split_at.ensures.back ∙ ap (drop 1) is)
