use Rattle.std.proofs.Common.{◌≡◌, ◌∙◌, ◌++◌, ℕ, ap, subst, sym, get_or, slice_get, Some}
use Rattle.std.proofs.lemmas.Option.{slice_get_within}
use Rattle.lemmas.proofs.Options.{one_there}
use Rattle.lemmas.proofs.Positions.{got}
use Rattle.share_layout.specs.Pieces.{block_length}
use Rattle.download_supply.specs.Blocks.{IsHeld}
use Rattle.download_supply.specs.Supply.{SupplyState}
use Rattle.download_file.specs.State.{ReaderState}
use Rattle.download_file.specs.Answers.{block_of}
use Rattle.download_file.specs.Steps.{HasBlock}
use Rattle.download_file.proofs.BlockLemmas.{blocks_more}
use Rattle.download_file.proofs.blocks.join_blocks.Goals as goal

pub bounds-readers-position : goal.bounds-readers-position
bounds-readers-position c =
    let position : ℕ = get_or c.args.positions.now c.loop-position.position-index 0 in
    let has : HasBlock c.args.readers.now c.args.number c.args.size position = c.requires c.loop-position.position-index 0 c.loop-position-test.true in
    slice_get_within c.args.readers.now position has.r has.there

pub push_block-requires-clause-held : goal.push_block-requires-clause-held
push_block-requires-clause-held c =
    let position : ℕ = get_or c.args.positions.now c.loop-position.position-index 0 in
    let has : HasBlock c.args.readers.now c.args.number c.args.size position = c.requires c.loop-position.position-index 0 c.loop-position-test.true in
    let same : has.r ≡ c.index-readers-position.result = one_there (slice_get c.args.readers.now position) has.r _ has.there
    (got c.args.readers.now position _ (slice_get_within c.args.readers.now position has.r has.there) c.index-readers-position.is) in
    subst (λ (s : SupplyState). IsHeld s c.args.number) (ap (λ (r : ReaderState). r.supply) same ∙ sym c.supply.ensures) has.held

pub push_block-requires-clause-long : goal.push_block-requires-clause-long
push_block-requires-clause-long c =
    let position : ℕ = get_or c.args.positions.now c.loop-position.position-index 0 in
    let has : HasBlock c.args.readers.now c.args.number c.args.size position = c.requires c.loop-position.position-index 0 c.loop-position-test.true in
    let same : has.r ≡ c.index-readers-position.result = one_there (slice_get c.args.readers.now position) has.r _ has.there
    (got c.args.readers.now position _ (slice_get_within c.args.readers.now position has.r has.there) c.index-readers-position.is) in
    has.long ∙ ap (λ (s : SupplyState). block_length s.geometry c.args.number) (ap (λ (r : ReaderState). r.supply) same ∙ sym c.supply.ensures)

pub loop-position-preserved : goal.loop-position-preserved
loop-position-preserved c =
    let entries = c.args.requests.now.entries in
    let i = c.loop-position.position-index in
    let position : ℕ = get_or c.args.positions.now i 0 in
    let has : HasBlock c.args.readers.now c.args.number c.args.size position = c.requires i 0 c.loop-position-test.true in
    let at : slice_get c.args.readers.now position ≡ Some c.index-readers-position.result = got c.args.readers.now position _ (slice_get_within c.args.readers.now position has.r has.there) c.index-readers-position.is in
    c.in_ok-push_block.ensures
    ∙ (λ i'. c.loop-position.invariant i' ++ block_of entries (c.supply.ensures i') c.args.number)
    ∙ sym (blocks_more entries c.args.readers.now c.args.number c.args.positions.now i c.index-readers-position.result c.loop-position-test.true at)
