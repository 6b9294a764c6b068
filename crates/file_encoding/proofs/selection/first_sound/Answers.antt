use Rattle.std.proofs.Common.{◌≡◌, ℕ, map, inl, inr, sym, subst, ◌∙◌, arith}
use Rattle.std.proofs.lemmas.List.{length-map}
use Rattle.std.proofs.lemmas.Bool.{cases_lt, true≢false}
use Rattle.file_encoding.specs.Reading.{IsSoundAt}
use Rattle.file_encoding.proofs.selection.first_sound.Goals as goal

pub returns-then-is_sound_at-clause-some : goal.returns-then-is_sound_at-clause-some
returns-then-is_sound_at-clause-some c = record {
  inside = let all = length-map c.args.shares.now (λ s. s.0) in omega (arith, all, c.loop-position-test.true);
  passes = c.is_sound_at.ensures.0 c.if-is_sound_at.true;
  first = c.loop-position.invariant;
}

pub loop-position-preserved : goal.loop-position-preserved
loop-position-preserved c = λ other below passes.
    elim (cases_lt other c.loop-position.position) [
      | inl before ↦ c.loop-position.invariant other before passes
      | inr after ↦ (let here : other ≡ c.loop-position.position = omega (arith, below, after) in
          let yes = c.is_sound_at.ensures.1 (subst (λ (p : ℕ). IsSoundAt c.args.cap.now (map (λ s. s.0) c.args.shares.now) (map (λ s. s.1.now) c.args.shares.now) c.args.number p) here passes) in
          absurd (true≢false (sym yes ∙ c.if-is_sound_at.false)))
    ]

pub returns-clause-none : goal.returns-clause-none
returns-clause-none c = λ _ position inside passes.
    let all = length-map c.args.shares.now (λ s. s.0) in
    c.loop-position.invariant position (omega (arith, inside, all, c.loop-position-test.false)) passes
