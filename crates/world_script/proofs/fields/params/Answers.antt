use Rattle.std.proofs.Common.{◌≡◌, List, [], ◌∷◌, ℕ, decimal, map, rules, Bor}
use Rattle.world_script.proofs.Naming.{chosen_of}
use Rattle.world_script.proofs.fields.params.Goals as goal

pub returns-in_ok-total-in-len4-clause-none : goal.returns-in_ok-total-in-len4-clause-none
returns-in_ok-total-in-len4-clause-none c = λ refused p are.
    let words_are : map (λ (w : Bor (List ℕ)). w.now) c.args.words.now ≡ decimal c.in_ok-needed-in-len4.needed ∷ decimal c.in_ok-needed-in-len4.happy ∷ decimal c.in_ok-total-in-len4.total ∷ decimal c.in_ok-total-in-len4.segment ∷ [] = search rules in
    c.chosen.ensures.none refused (chosen_of p c.in_ok-needed-in-len4.needed c.in_ok-needed-in-len4.happy c.in_ok-total-in-len4.total c.in_ok-total-in-len4.segment _ c.in_ok-needed-in-len4.ensures.value.0.0 c.in_ok-needed-in-len4.ensures.value.0.1.0 c.in_ok-total-in-len4.ensures.value.0.0 c.in_ok-total-in-len4.ensures.value.0.1.0 words_are are)
