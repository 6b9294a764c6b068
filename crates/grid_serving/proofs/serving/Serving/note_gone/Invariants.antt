use Rattle.std.specs.Prelude.{◌≡◌}
use Rattle.grid_serving.specs.Loops.{TellsGone}
use Rattle.grid_serving.proofs.serving.Serving.note_gone.Given as goal

-- clients that are gone are told of so far
abbrev pub invariant-loop : goal.invariant-loop
invariant-loop g l = TellsGone l.fn.self.news l.self.news × (l.self ≡ record l.fn.self { news = l.self.news })
