use Rattle.std.proofs.Common.{◌≡◌, ℕ, List, ◌-◌, ◌<◌}
use Rattle.aes_ctr.specs.Aes.{rounds}
use Rattle.aes_ctr.specs.Slices.{AreSlices, block_in}
use Rattle.aes_ctr.proofs.Aes128.later_rounds.Given as goal

abbrev pub invariant-rounds : goal.invariant-rounds
invariant-rounds l = record {
  slices : AreSlices l.state;
  blocks : (j : ℕ) (block : List ℕ) → j < 16 → block_in l.fn.first j ≡ rounds l.self block 1 → block_in l.state j ≡ rounds l.self block (l.r - 1);
}
