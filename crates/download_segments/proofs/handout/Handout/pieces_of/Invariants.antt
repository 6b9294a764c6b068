use Rattle.std.proofs.Common.{◌≡◌, ◌++◌, map, length}
use Rattle.download_segments.specs.Handout.{first_handed_out}
use Rattle.download_segments.proofs.handout.Handout.pieces_of.Given as goal

abbrev pub invariant-loop-segment : goal.invariant-loop-segment
invariant-loop-segment l = record {
  rest : l.yielded ++ l.segment-iterator.rest.items ≡ l.fn.segments.items;
  state : record l.self { reached = l.reached; ready = l.self.ready ++ l.pieces.items }
      ≡ first_handed_out l.self (map (λ s. s.items) l.fn.segments.items) (length l.yielded);
}
