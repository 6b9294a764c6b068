use Rattle.std.proofs.Common.{◌≡◌, ℕ, List, [], map, get_or, inl, inr, subst, sym, arith}
use Rattle.std.proofs.lemmas.Bool.{cases_lt}
use Rattle.share_layout.specs.Offsets.{LocatesUeb}
use Rattle.file_encoding.proofs.Reread.{string_at}
use Rattle.file_encoding.proofs.decoded.agree.Goals as goal

pub returns-then-not-has_block-clause-no : goal.returns-then-not-has_block-clause-no
returns-then-not-has_block-clause-no c = λ _.
    let position : ℕ = get_or c.args.positions.now c.loop-position.position-index 0 in (
      c.loop-position.position-index,
      c.loop-position-test.true,
      λ located.
          (let yes = c.has_block.ensures.1
          (subst (λ (b : List ℕ). LocatesUeb b c.args.extension_block.now) (string_at c.args.shares.now position _ (c.requires c.loop-position.position-index 0 c.loop-position-test.true)) located) in
          let no = c.if-not-has_block.true in absurd cc),
    )

pub loop-position-preserved : goal.loop-position-preserved
loop-position-preserved c = λ m below.
    let index : ℕ = c.loop-position.position-index in
    let position : ℕ = get_or c.args.positions.now index 0 in
    elim (cases_lt m index) [
      | inl old ↦ c.loop-position.invariant m old
      | inr new ↦ (let at : index ≡ m = omega (arith, below, new) in
          let here = subst (λ (b : List ℕ). LocatesUeb b c.args.extension_block.now) (sym (string_at c.args.shares.now position _ (c.requires index 0 c.loop-position-test.true)))
          (c.has_block.ensures.0 c.if-not-has_block.false) in
          subst (λ (k : ℕ). LocatesUeb (get_or (map (λ s. s.1.now) c.args.shares.now) (get_or c.args.positions.now k 0) []) c.args.extension_block.now) at here)
    ]
