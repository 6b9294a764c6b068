use Rattle.std.proofs.Common.{[], ◌∙◌}
use Rattle.tagged_hash.proofs.WaitingLemmas.{none_more, taken_held}
use Rattle.tagged_hash.proofs.waiting.WaitingHasher.new.Goals as goal

pub invariant_of-result : goal.invariant_of-result
invariant_of-result c = ∣ (c.args.tag, ([], c.new.ensures)) ∣₁

pub returns : goal.returns
returns c = none_more _ _ ∣ (c.args.tag, ([], c.new.ensures)) ∣₁ c.new-2.ensures.items ∙ taken_held _ c.args.tag [] c.new.ensures
