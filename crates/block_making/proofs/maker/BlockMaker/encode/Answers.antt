use Rattle.std.proofs.Common.{◌≡◌, ℕ, ◌+◌, ◌*◌, ◌≤◌, List, length, take, drop, get_or, inl, inr, ap, sym, subst, ◌∙◌, arith}
use Rattle.std.proofs.Math.Nat.{mul-le-mul_right}
use Rattle.std.proofs.lemmas.Bool.{cases_eq}
use Rattle.zfec_code.specs.ShareValue.{share_block}
use Rattle.block_making.specs.Making.{Making}
use Rattle.block_making.proofs.maker.BlockMaker.encode.Goals as goal

pub encode_lane-requires-clause-room : goal.encode_lane-requires-clause-room
encode_lane-requires-clause-room c =
    let lane : ℕ = c.loop-lane.lane in
    let size : ℕ = c.args.size in
    let times : (lane + 1) * size ≤ length c.args.shares.now * size = mul-le-mul_right {m = lane + 1} {n = length c.args.shares.now} size (omega (arith, c.loop-lane-test.true, c.loop-lane.auto.lane-end)) in
    omega (arith, times, c.requires.room, c.loop-lane.auto.lanes)

pub loop-lane-preserved : goal.loop-lane-preserved
loop-lane-preserved c = λ i low.
    let lane : ℕ = c.loop-lane.lane in
    let size : ℕ = c.args.size in
    let padded : List ℕ = c.args.padded.now in
    let needed : c.self.inside.encoder.now.code.k ≡ c.args.self.now.geometry.needed = c.self.invariant.needed ∙ ap (λ (m : Making). m.geometry.needed) c.self.view_is in
    let own : take size (drop (lane * size) c.encode_lane.new.lanes) ≡ share_block c.args.self.now.geometry.needed (get_or c.args.shares.now lane 0) size padded =
    c.encode_lane.ensures.block ∙ λ p. share_block (needed p) (c.from-share.ensures p) size padded in
    elim (cases_eq i lane) [
      | inl e ↦ subst (λ n. take size (drop (n * size) c.encode_lane.new.lanes) ≡ share_block c.args.self.now.geometry.needed (get_or c.args.shares.now n 0) size padded) (sym e) own
      | inr apart ↦ c.encode_lane.ensures.others i apart ∙ c.loop-lane.invariant i (omega (arith, low, apart))
    ]
