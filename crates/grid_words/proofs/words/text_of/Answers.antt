use Rattle.std.proofs.Common.{◌∙◌, rules, ap}
use Rattle.grid_words.proofs.Getters.{text_read}
use Rattle.grid_words.proofs.words.text_of.Goals as goal

pub returns : goal.returns
returns c = ap (λ s. s.now) c.unwrap_or.ensures ∙ text_read _ _ _ c.found_text.ensures (search rules)
