use Rattle.std.proofs.Common.{◌∙◌, Bor, ap, map}
use Rattle.std.proofs.lemmas.Result.{IfOk-weaker}
use Rattle.clap.specs.Matches.{found_of}
use Rattle.clap.specs.Walk.{Text}
use Rattle.clap.proofs.WalkLemmas.{raw_values-rows}
use Rattle.grid_words.proofs.Getters.{no_texts, some_texts}
use Rattle.grid_words.proofs.words.texts_of.Goals as goal

pub returns-in-Some : goal.returns-in-Some
returns-in-Some c =
    let same = c.get_strs.ensures ∙ raw_values-rows (found_of c.args.found.now) c.args.id.now in
    IfOk-weaker c.from_slice.result _ _ (λ texts is. ap (map (λ (s : Bor Text). s.now)) is ∙ some_texts _ _ _ c.in-Some.is same) c.from_slice.ensures.items

pub returns-in-None : goal.returns-in-None
returns-in-None c =
    let same = c.get_strs.ensures ∙ raw_values-rows (found_of c.args.found.now) c.args.id.now in
    ap (map (λ (s : Bor Text). s.now)) c.new.ensures.items ∙ no_texts _ _ c.in-None.is same
