use Rattle.std.proofs.Common.{◌≡◌, drop}
use Rattle.std.specs.List.{list_any}
use Rattle.catalogues.specs.Patterns.{behind_front, taken}
use Rattle.catalogues.proofs.patterns.choose.Given as goal

-- none of the patterns so far takes the name
abbrev pub invariant-loop-pattern : goal.invariant-loop-pattern
invariant-loop-pattern l = list_any (λ p. taken l.name (behind_front p.now)) (drop l.pattern-index l.patterns) ≡ list_any (λ p. taken l.fn.name (behind_front p.now)) l.fn.patterns
