use Rattle.std.proofs.Common.{◌∙◌, ap}
use Rattle.std.specs.Prelude.{option_and_then}
use Rattle.std.specs.Str.Parse.{ParsesUnsigned, ExplainsUnsignedError, HasUnsignedDigitsIfOk}
use Rattle.clap.specs.Matches.{found_of}
use Rattle.clap.proofs.WalkLemmas.{one_text-rows}
use Rattle.grid_words.specs.Asked.{spelled_number}
use Rattle.grid_words.proofs.Getters.{number_read}
use Rattle.grid_words.proofs.words.number_of.Goals as goal

pub returns : goal.returns
returns c =
    number_read (λ bs r. ParsesUnsigned 64 10 bs r × ExplainsUnsignedError 10 bs r × HasUnsignedDigitsIfOk bs r) _ _ (λ t r g. g.0)
    c.get_one.ensures.none c.get_one.ensures.value
    ∙ ap (option_and_then spelled_number) (one_text-rows (found_of c.args.found.now) c.args.id.now)
