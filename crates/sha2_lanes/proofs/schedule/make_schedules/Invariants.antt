use Rattle.std.proofs.Common.{◌*◌, ◌<◌, ℕ, take, drop}
use Rattle.sha2_lanes.specs.Lanes.{AreSums, AreSumsAt, AreVectors, lane}
use Rattle.sha2_lanes.proofs.schedule.make_schedules.Given as goal

abbrev pub invariant-first : goal.invariant-first
invariant-first l = record {
  vectors : AreVectors 64 l.all;
  sums : (j : ℕ) → j < 8 → AreSums (take 64 (drop (j * 64) l.group)) (lane l.all j) l.t;
}

abbrev pub invariant-words : goal.invariant-words
invariant-words l = record {
  ring : AreVectors 16 l.w;
  vectors : AreVectors 64 l.all;
  sums : AreSumsAt (λ j. take 64 (drop (j * 64) l.group)) l.w l.all (16 * l.turn);
}
