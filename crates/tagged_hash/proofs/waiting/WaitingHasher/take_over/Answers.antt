use Rattle.std.proofs.Common.{sym, ◌∙◌}
use Rattle.tagged_hash.proofs.WaitingLemmas.{none_more, taken_over}
use Rattle.tagged_hash.proofs.waiting.WaitingHasher.take_over.Goals as goal

pub invariant_of-self : goal.invariant_of-self
invariant_of-self c = taken_over _ _ _ c.self.invariant (c.requires ∙ sym c.self.view_is)

pub returns : goal.returns
returns c = none_more _ _ (taken_over _ _ _ c.self.invariant (c.requires ∙ sym c.self.view_is)) c.clear.ensures.items ∙ c.requires
