use Rattle.std.proofs.Common.{◌≡◌, ℕ, ◌*◌, ◌<◌, List, length, take, drop, get_or, inl, inr, refl, ap, sym, subst, ◌∙◌, arith}
use Rattle.std.proofs.lemmas.Bool.{cases_lt}
use Rattle.tagged_hash.specs.TaggedHash.{tagged_hash}
use Rattle.tagged_hash.specs.declared.tag.Tag.TheVariants.{Block}
use Rattle.share_layout.specs.Pieces.{block_length}
use Rattle.file_encoding.specs.Encoding.{block_of}
use Rattle.block_making.specs.Making.{IsBlock, IsMaking, Making}
use Rattle.block_making.proofs.MadeBlocks.{share_is}
use Rattle.block_making.proofs.maker.BlockMaker.make_group.Goals as goal

pub returns-then-not-keep-clause-other : goal.returns-then-not-keep-clause-other
returns-then-not-keep-clause-other c = λ _ segment is.
    let m : Making = c.args.self.now in
    let lane : ℕ = c.loop-lane.lane in
    let size : ℕ = c.block_length-size.result in
    let within : lane < length c.args.shares.now = omega (arith, c.loop-lane-test.true, c.loop-lane.auto.lane-end) in
    let size_is : size ≡ block_length m.geometry c.args.number = c.block_length-size.ensures.value ∙ ap (λ (m : Making). block_length m.geometry c.args.number) c.self.view_is in
    let making : IsMaking m c.self.inside.encoder.now.code = subst (λ (m : Making). IsMaking m c.self.inside.encoder.now.code) c.self.view_is c.self.invariant in
    let share : ℕ = get_or c.args.shares.now lane 0 in
    let block : c.lane_of-block.result.now ≡ block_of m.geometry.needed share segment =
    c.lane_of-block.ensures.value ∙ c.encode.ensures lane within
    ∙ share_is m.geometry.needed share size segment c.args.padded.now making.geometry.some_needed (c.requires.padded ∙ ap (λ n. n * m.geometry.needed) (sym size_is)) is in
    record { share = share; low = c.requires.low lane 0 within; other = λ e. c.if-not-keep.ensures.other refl (ap (tagged_hash Block) block ∙ e) }

pub loop-lane-preserved : goal.loop-lane-preserved
loop-lane-preserved c =
    let m : Making = c.args.self.now in
    let lane : ℕ = c.loop-lane.lane in
    let size : ℕ = c.block_length-size.result in
    let size_is : size ≡ block_length m.geometry c.args.number = c.block_length-size.ensures.value ∙ ap (λ (m : Making). block_length m.geometry c.args.number) c.self.view_is in
    record {
      slots = c.keep.ensures.slots;
      first = λ _. elim (cases_lt 0 lane) [
        | inl some ↦ c.loop-lane.invariant.first some
        | inr none ↦ (let zero : lane ≡ 0 = omega (arith, none) in
            let block : c.lane_of-block.result.now ≡ take (block_length m.geometry c.args.number) c.encode.new.lanes =
            c.lane_of-block.ensures.value ∙ (let at : lane * size ≡ 0 = ap (λ n. n * size) zero ∙ (let e : 0 * size ≡ 0 = omega arith in e) in λ p. take (size_is p) (drop (at p) c.encode.new.lanes)) in
            subst (λ n. IsBlock m.geometry m.leaves (get_or c.args.shares.now n 0) c.args.number (take (block_length m.geometry c.args.number) c.encode.new.lanes)) zero
            (subst (λ (b : List ℕ). IsBlock m.geometry m.leaves (get_or c.args.shares.now lane 0) c.args.number b) block (c.if-not-keep.ensures.is refl)))
      ];
    }
