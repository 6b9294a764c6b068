use Rattle.std.proofs.Common.{◌≡◌, ℕ, ◌<◌, List, take, get_or, ap, subst, ◌∙◌, arith}
use Rattle.std.proofs.lemmas.List.{get_or-take, length-take}
use Rattle.std.proofs.lemmas.List.Elements.{All-replicate}
use Rattle.share_layout.specs.Pieces.{block_length}
use Rattle.block_making.specs.Making.{IsBlock, Making}
use Rattle.block_making.proofs.maker.BlockMaker.make_blocks.Goals as goal

pub choose-count-requires-clause-low : goal.choose-count-requires-clause-low
choose-count-requires-clause-low c =
    let low : c.self.inside.share < c.args.self.now.geometry.total = omega (arith, c.self.invariant.number, ap (λ (m : Making). m.geometry.total) c.self.view_is) in
    All-replicate (λ n. n < c.args.self.now.geometry.total) 256 c.self.inside.share low

pub returns-then-make_groups-clause-made : goal.returns-then-make_groups-clause-made
returns-then-make_groups-clause-made c = λ e.
    let m : Making = c.args.self.now in
    let shares : List ℕ = c.choose-count.new.shares in
    let first : ℕ = c.min-first.result in
    let some : 0 < first = omega (arith, c.min-first.ensures, c.choose-count.ensures.some) in
    let own : get_or (take first shares) 0 0 ≡ m.share = get_or-take first shares 0 0 some ∙ c.choose-count.ensures.own in
    subst (λ n. IsBlock m.geometry m.leaves n c.args.number (take (block_length m.geometry c.args.number) c.make_group.new.lanes)) own
    (c.make_group.ensures.made e (omega (arith, length-take first shares, some, c.min-first.ensures, c.choose-count.ensures.within, c.choose-count.ensures.some)))
