use Rattle.std.proofs.Common.{◌∙◌}
use Rattle.tagged_hash.proofs.WaitingLemmas.{hashed, held_taken}
use Rattle.tagged_hash.proofs.waiting.WaitingHasher.finish.Goals as goal

pub returns : goal.returns
returns c = λ tag given is.
    c.finish.ensures tag given (held_taken _ tag given (hashed _ _ _ c.self.invariant c.hash_waiting.ensures.given ∙ c.self.view_is ∙ is))
