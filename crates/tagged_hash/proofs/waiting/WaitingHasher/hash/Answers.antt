use Rattle.std.proofs.Common.{◌∙◌}
use Rattle.tagged_hash.proofs.WaitingLemmas.{given_more, hashed, none_more}
use Rattle.tagged_hash.proofs.waiting.WaitingHasher.hash.Goals as goal

pub invariant_of-self : goal.invariant_of-self
invariant_of-self c = given_more _ _ _ c.self.invariant c.hash_waiting.ensures.given

pub returns : goal.returns
returns c =
    none_more _ _ (given_more _ _ _ c.self.invariant c.hash_waiting.ensures.given) c.hash_waiting.ensures.none
    ∙ hashed _ _ _ c.self.invariant c.hash_waiting.ensures.given ∙ c.self.view_is
