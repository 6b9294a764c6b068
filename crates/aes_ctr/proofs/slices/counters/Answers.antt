use Rattle.std.proofs.Common.{◌*◌, ◌∷◌, [], ℕ, List, sym, ap, subst, ◌∙◌, get_or, arith}
use Rattle.aes_ctr.specs.Slices.{AreSlices, block_in}
use Rattle.aes_ctr.proofs.CounterLemmas.{counted_are, counted_block, counted_is}
use Rattle.aes_ctr.proofs.slices.counters.Goals as goal

pub returns-clause-slices : goal.returns-clause-slices
returns-clause-slices c =
    subst AreSlices (counted_is c.repeated.result _ _ _ _ c.last_bytes.ensures c.last_bytes-2.ensures c.last_bytes-3.ensures c.last_bytes-4.ensures)
    (counted_are c.repeated.result c.repeated.ensures.slices)

pub returns-clause-blocks : goal.returns-clause-blocks
returns-clause-blocks c j below =
    let block : List ℕ → List ℕ = λ bytes. 0 ∷ 0 ∷ 0 ∷ 0 ∷ 0 ∷ 0 ∷ 0 ∷ 0 ∷ get_or bytes 0 0 ∷ get_or bytes 1 0 ∷ get_or bytes 2 0 ∷ get_or bytes 3 0
    ∷ get_or bytes 4 0 ∷ get_or bytes 5 0 ∷ get_or bytes 6 0 ∷ get_or bytes 7 0 ∷ []
    in
    ap (λ s. block_in s j) (sym (counted_is c.repeated.result _ _ _ _ c.last_bytes.ensures c.last_bytes-2.ensures c.last_bytes-3.ensures c.last_bytes-4.ensures))
    ∙ counted_block (16 * c.args.index) j c.repeated.result c.repeated.ensures.slices (omega arith) (omega arith) below
    (c.repeated.ensures.blocks j below ∙ ap block c.to_be_bytes.ensures)
