use Rattle.std.proofs.Common.{◌∙◌}
use Rattle.share_gathering.proofs.kept.file_slots.Goals as goal

pub returns : goal.returns
returns c = λ leaves. record {
  size = c.in_ok-new.ensures.size ∙ c.block_size-size.ensures.value;
  verified = λ block keeps. absurd (c.in_ok-new.ensures.none block keeps);
}
