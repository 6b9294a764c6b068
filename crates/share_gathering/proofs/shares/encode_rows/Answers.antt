use Rattle.std.proofs.Common.{◌≡◌, ℕ, ◌+◌, ◌-◌, ◌*◌, ◌≤◌, List, take, drop, length, inl, inr, ap, sym, subst, ◌∙◌, arith}
use Rattle.std.proofs.Math.Nat.{add-mul, mul-le-mul_right}
use Rattle.std.proofs.lemmas.Bool.{cases_eq}
use Rattle.std.proofs.lemmas.List.{length-drop, length-take-le}
use borrow.Rule.Slice.PartMut.{put_mid}
use Rattle.share_gathering.specs.Groups.{row_of}
use Rattle.block_making.proofs.Lanes.{lane-other, lane-own}
use Rattle.share_gathering.proofs.shares.encode_rows.Goals as goal

pub loop-lane-preserved : goal.loop-lane-preserved
loop-lane-preserved c = λ i low.
    let lane : ℕ = c.loop-lane.lane in
    let rows : ℕ = c.args.group.row in
    let row : List ℕ = c.encode_row.new.row in
    let lanes : List ℕ = c.loop-lane.lanes in
    let times : (lane + 1) * rows ≤ 8 * rows = mul-le-mul_right {m = lane + 1} {n = 8} rows (omega (arith, c.loop-lane-test.true, c.loop-lane.auto.lane-end, c.requires.few)) in
    let room : lane * rows + rows ≤ length lanes = omega (arith, times, add-mul lane 1 rows, c.requires.room, c.loop-lane.auto.lanes) in
    let part : lane * rows + rows - lane * rows ≡ rows = omega arith in
    let long : length row ≡ rows =
    c.encode_row.auto.row ∙ ap (λ n. length (take n (drop (lane * rows) lanes))) part ∙ length-take-le rows (drop (lane * rows) lanes) (omega (arith, length-drop (lane * rows) lanes, room)) in
    elim (cases_eq i lane) [
      | inl e ↦ subst (λ n. take rows (drop (n * rows) (put_mid (lane * rows) (lane * rows + rows - lane * rows) lanes row)) ≡ row_of c.args.geometry.now c.args.group (take c.args.group.len c.args.segments.now) (c.args.first + n)) (sym e)
          (lane-own rows lane (lane * rows + rows - lane * rows) lanes row room long ∙ c.encode_row.ensures)
      | inr apart ↦ lane-other rows lane (lane * rows + rows - lane * rows) lanes row room long i part apart ∙ c.loop-lane.invariant i (omega (arith, low, apart))
    ]
