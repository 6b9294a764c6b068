use Rattle.std.proofs.Common.{refl}
use Rattle.cap_text.specs.Base32.{base32}
use Rattle.cap_text.proofs.base32.Letters.new.Goals as goal

pub returns : goal.returns
unfolding base32
returns c = rw c.new.ensures refl
