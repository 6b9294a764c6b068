use Rattle.std.proofs.Common.{sym, subst, ◌∙◌}
use Rattle.sha2_lanes.specs.Stream.{HasMessage, taken_by, with_more}
use Rattle.sha2_lanes.specs.declared.stream.Sha256Stream.{Sha256Stream}
use Rattle.tagged_hash.proofs.WaitingLemmas.{has_message}
use Rattle.tagged_hash.proofs.waiting.WaitingHasher.parts.Goals as goal

pub returns : goal.returns
returns c = record {
  whole = (λ i. with_more (taken_by (c.stream.ensures i)) (c.deref.ensures.value i)) ∙ c.self.view_is;
  some = subst (λ (s : Sha256Stream). ∥ HasMessage s ∥₁) (sym c.stream.ensures) (has_message _ c.self.invariant);
}
