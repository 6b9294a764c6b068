use Rattle.std.proofs.Common.{ap, sym, ◌∙◌}
use Rattle.tagged_hash.specs.TaggedHash.{double_sha256}
use Rattle.proved_parts.proofs.Ways.{step_same}
use Rattle.proved_parts.proofs.clash.clash_of_steps.Goals as goal

pub returns : goal.returns
returns c = (
  λ e.
      c.requires.apart
      (step_same c.args.position c.args.left.now c.args.right.now c.args.mine.now c.args.yours.now c.told-left c.told-right c.told-mine c.told-yours
      (sym c.in_ok-text.ensures ∙ e ∙ c.in_ok-step_text.ensures)),
  ap double_sha256 c.in_ok-text.ensures ∙ c.requires.meet ∙ sym (ap double_sha256 c.in_ok-step_text.ensures),
)
