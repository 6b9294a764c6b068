use Rattle.std.proofs.Common.{◌≡◌, ℕ, List, [], ◌∷◌, ◌++◌, sym, ap, ◌∙◌, rules, append_assoc}
use Rattle.std.proofs.Output.{has_written_append, has_written_of_eq}
use Rattle.std.proofs.lemmas.Str.{encode_ascii}
use lib.Utf8.{encode}
use Rattle.cap_text.proofs.base32.Base32Display.fmt.Goals as goal

pub loop-letter-preserved : goal.loop-letter-preserved
loop-letter-preserved g c = λ plain.
    let so_far = c.loop-letter.invariant plain in
    let one : encode c.from.result ≡ c.in-Some.letter ∷ [] =
    ap encode c.from.ensures ∙ encode_ascii c.in-Some.letter c.in-Some.ensures.ascii in (
      so_far.0 ++ c.in-Some.letter ∷ [],
      has_written_append _ _ _ _ _ _ so_far.1 (has_written_of_eq _ _ _ _ _ one (search rules)),
      append_assoc so_far.0 _ _ ∙ ap (λ (rest : List ℕ). so_far.0 ++ rest) (sym c.in-Some.ensures.letter) ∙ so_far.2,
    )
