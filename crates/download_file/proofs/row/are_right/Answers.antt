use Rattle.std.proofs.Common.{◌≡◌, ◌+◌, ◌≤◌, ℕ, List, Some, map, get_or, subst, sym, ◌∙◌, arith}
use Rattle.std.specs.Prelude.{slice_get}
use Rattle.std.proofs.lemmas.Bool.{true≢false}
use Rattle.std.proofs.lemmas.List.Elements.{Contains-get_or}
use Rattle.std.proofs.lemmas.Option.{slice_get-get_or}
use Rattle.lemmas.proofs.Positions.{got}
use Rattle.download_supply.specs.Supply.{SupplyState}
use Rattle.download_segments.specs.GroupMaking.{nth}
use Rattle.download_file.specs.State.{ReaderState}
use Rattle.download_file.specs.Rows.{ProvesBlocks}
use Rattle.download_file.proofs.RowLemmas.{proved_more}
use Rattle.download_file.proofs.row.are_right.Goals as goal

pub are_proved-requires-clause-within : goal.are_proved-requires-clause-within
are_proved-requires-clause-within c =
    let k = c.loop-k.k in
    let positions : List ℕ = c.args.positions.now in
    let r : ReaderState = c.index-readers-positions.result in
    let at : slice_get c.args.readers.now (get_or positions k 0) ≡ Some r =
    got c.args.readers.now (get_or positions k 0) r (c.requires.there k 0 c.loop-k-test.true) c.index-readers-positions.is in
    let before = (c.requires.ready 7 (omega arith) (get_or positions k 0) r (Contains-get_or positions k 0 c.loop-k-test.true) at).held.within.before in
    subst (λ (s : SupplyState). c.args.number + 8 ≤ s.end) (sym c.supply.ensures) (omega (arith, before))

pub returns-then-not-are_proved : goal.returns-then-not-are_proved
returns-then-not-are_proved c =
    let k = c.loop-k.k in
    let positions : List ℕ = c.args.positions.now in
    let rows : List (List ℕ) = map (λ r. r.items) c.args.rows.now in
    let r : ReaderState = c.index-readers-positions.result in
    let at : slice_get c.args.readers.now (get_or positions k 0) ≡ Some r =
    got c.args.readers.now (get_or positions k 0) r (c.requires.there k 0 c.loop-k-test.true) c.index-readers-positions.is in (
      λ yes. absurd (true≢false (sym yes)),
      λ all. sym c.if-not-are_proved.true ∙ c.are_proved.ensures.1
          (subst (λ (s : SupplyState). ProvesBlocks s c.args.number rows c.args.size k) (sym c.supply.ensures)
          (λ i low. all i low k (get_or positions k 0) r c.loop-k-test.true (slice_get-get_or positions k 0 c.loop-k-test.true) at)),
    )

pub loop-k-preserved : goal.loop-k-preserved
loop-k-preserved c =
    let k = c.loop-k.k in
    let positions : List ℕ = c.args.positions.now in
    let rows : List (List ℕ) = map (λ r. r.items) c.args.rows.now in
    let r : ReaderState = c.index-readers-positions.result in
    let at : slice_get c.args.readers.now (get_or positions k 0) ≡ Some r =
    got c.args.readers.now (get_or positions k 0) r (c.requires.there k 0 c.loop-k-test.true) c.index-readers-positions.is in
    let proved : ProvesBlocks r.supply c.args.number rows c.args.size k =
    subst (λ (s : SupplyState). ProvesBlocks s c.args.number rows c.args.size k) c.supply.ensures (c.are_proved.ensures.0 c.if-not-are_proved.false) in
    λ i low. proved_more c.args.readers.now positions (c.args.number + i) (nth rows i) c.args.size k (get_or positions k 0) r
    (slice_get-get_or positions k 0 c.loop-k-test.true) at (proved i low) (c.loop-k.invariant i low)
