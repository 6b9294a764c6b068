use Rattle.std.proofs.Common.{subst, List, Option, ℕ}
use Rattle.clap.specs.Matches.{found_of}
use Rattle.clap.proofs.WalkLemmas.{one_text-rows}
use Rattle.grid_words.specs.Asked.{IsFlag}
use Rattle.grid_words.proofs.Getters.{flag_read}
use Rattle.grid_words.proofs.words.is_set.Goals as goal

pub returns : goal.returns
returns c =
    subst (λ (found : Option (List ℕ)). IsFlag found c.get_flag.result) (one_text-rows (found_of c.args.found.now) c.args.id.now)
    (flag_read _ _ c.get_flag.ensures.none c.get_flag.ensures.value c.get_flag.ensures.other)
