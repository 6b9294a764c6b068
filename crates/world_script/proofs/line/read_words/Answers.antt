use Rattle.std.proofs.Common.{subst, sym}
use Rattle.world_script.specs.Refused.{SpellNoCommand}
use Rattle.world_script.proofs.Naming.{first_of, none_named}
use Rattle.world_script.proofs.line.read_words.Goals as goal

pub returns-in-None-clause-none : goal.returns-in-None-clause-none
returns-in-None-clause-none c = λ refused. subst SpellNoCommand (sym (first_of c.args.words.now _ c.in-len1-up.len_at_least)) (none_named _ _ c.in-None.ensures.none)
