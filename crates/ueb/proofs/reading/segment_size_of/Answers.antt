use Rattle.std.proofs.Common.{◌≡◌, ◌∙◌, ℕ, sym, subst, arith, rules}
use Rattle.std.proofs.lemmas.Bool.{both_ways}
use Rattle.std.proofs.lemmas.Fmt.{decimal_injective}
use Rattle.ueb.specs.Shape.{IsSegmentSize}
use Rattle.ueb.proofs.reading.segment_size_of.Goals as goal

pub returns-in_err-size-clause-none : goal.returns-in_err-size-clause-none
returns-in_err-size-clause-none c =
    rw c.from_residual.ensures (λ size e s. c.in_err-size.ensures.none (size, omega (arith, s.not_large), e))

pub returns-else-is_segment_size-clause-none : goal.returns-else-is_segment_size-clause-none
returns-else-is_segment_size-clause-none c size e s =
    let same : size ≡ c.in_ok-size.size = decimal_injective size c.in_ok-size.size (omega (arith, s.not_large)) (search rules) (sym e ∙ c.in_ok-size.ensures.value) in
    both_ways _ c.if-is_segment_size.false (c.is_segment_size.ensures.1 (subst (λ (n : ℕ). IsSegmentSize c.args.expect.now.needed c.args.expect.now.size n) same s))
