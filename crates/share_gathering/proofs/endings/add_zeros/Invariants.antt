use Rattle.std.proofs.Common.{ℕ, ◌*◌, ◌<◌, List, ◌++◌, replicate}
use Rattle.tagged_hash.specs.Wholes.{IsGivenAt}
use Rattle.share_gathering.proofs.endings.add_zeros.Given as goal

abbrev pub invariant-loop-part : goal.invariant-loop-part
invariant-loop-part l = (j : ℕ) (given : List ℕ) → j < 7 → IsGivenAt l.initial.whole j given → IsGivenAt l.whole j (given ++ replicate (l._part * 4096) 0)
