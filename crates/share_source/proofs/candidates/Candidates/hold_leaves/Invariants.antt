use Rattle.std.proofs.Common.{◌≡◌, ℕ, ◌<◌, get_or}
use Rattle.share_source.specs.Candidates.{HoldsOwnLeaves}
use Rattle.share_source.specs.Reading.{AreTreesRead}
use Rattle.share_source.proofs.candidates.Candidates.hold_leaves.Given as goal

abbrev pub invariant-loop-i : goal.invariant-loop-i
invariant-loop-i g l = record {
  read : AreTreesRead g.B.ShareBytes.gives g.B.ShareBytes.fails l.fn.self l.self;
  ueb : l.self.ueb ≡ l.fn.self.ueb;
  numbers : l.self.numbers ≡ l.fn.self.numbers;
  struck : l.self.struck ≡ l.fn.self.struck;
  held : (k : ℕ) → k < l.i → HoldsOwnLeaves l.self (get_or l.positions k 0);
}
