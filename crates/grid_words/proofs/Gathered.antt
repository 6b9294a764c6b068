-- Arguments for each of which there was memory.
use Rattle.std.proofs.Common.{List, [], ◌∷◌, Ok, map}
use Rattle.clap.specs.Walk.{Rule}
use Rattle.clap.specs.declared.builder.arg.Arg.{Arg}
use Rattle.grid_words.specs.Builds.{HaveRules, MayHaveRules}

pub all_have : (E : Type 0) (rules : List Rule) (args : List Arg)
    → MayHaveRules {E = E} rules (map Ok args) → HaveRules rules args
all_have E [] [] have = tt
all_have E [] (arg ∷ args) have = have
all_have E (rule ∷ rules) [] have = have
all_have E (rule ∷ rules) (arg ∷ args) have = (have.0, all_have E rules args have.1)
