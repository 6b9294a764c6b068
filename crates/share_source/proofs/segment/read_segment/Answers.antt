use Rattle.std.proofs.Common.{◌≡◌, ℕ, ◌*◌, ◌++◌, Err, List, Ok, OnErr, Result, rules, length, map, take, refl, ap, subst, sym, ◌∙◌, arith}
use Rattle.std.proofs.lemmas.List.{length-take-le}
use Rattle.ueb.specs.Shape.{Contents}
use Rattle.share_layout.specs.Geometry.{Geometry}
use Rattle.share_layout.specs.Pieces.{block_length, pieces}
use Rattle.download_segments.specs.Decoding.{AreShareNumbers}
use Rattle.share_source.specs.Candidates.{AreBlocksTold, AreSharesRead, Candidates, ShareRead, leaves_held, picked_numbers}
use Rattle.share_source.specs.Decoded.{IsSegmentDecoded, blocks_read}
use Rattle.share_source.specs.declared.place.Place.{Place}
use Rattle.share_source.proofs.Asking.{asked_append}
use Rattle.share_source.proofs.Blocks.{shares_by}
use Rattle.share_source.proofs.Decodings.{blocks_fit, segment_decoded}
use Rattle.share_source.proofs.segment.read_segment.Goals as goal

pub returns-then-branch-clause-decoded : goal.returns-then-branch-clause-decoded
returns-then-branch-clause-decoded g c =
    let gives = g.B.ShareBytes.gives in
    let fails = g.B.ShareBytes.fails in
    let geometry : Geometry = c.args.reading.now.geometry in
    let place : Place = c.of-place.result in
    let k = c.loop-candidates.invariant in
    let round = c.in_ok-read_round.ensures in
    let old : Candidates _ = c.args.candidates.now in
    let mid : Candidates _ = c.loop-candidates.candidates in
    let new : Candidates _ = c.read_round.new.candidates in
    let positions : List ℕ = c.read_round.new.reading.positions.items in
    let joined : List ℕ = c.read_round.new.reading.blocks.items in
    let text : List ℕ = take c.decode.result c.decode.new.reading.segment.items in
    let needed : c.loop-candidates.reading.geometry.needed ≡ geometry.needed = ap (λ h. h.needed) k.geometry in
    let after : c.read_round.new.reading.geometry ≡ geometry = round.geometry ∙ k.geometry in
    let same : new.numbers ≡ old.numbers = round.numbers ∙ k.numbers in
    let size : place.size ≡ block_length geometry c.args.number = ap (λ p. p.size) c.of-place.ensures.place in
    let last = round.read c.if-branch.true in
    let read = subst (λ n. AreSharesRead gives fails place mid (last.0 ++ blocks_read positions (pieces n place.size joined)) new) needed last.1 in
    let told = subst (λ n. AreBlocksTold old.ueb place.segment (picked_numbers old.numbers positions) (map (leaves_held new.held) positions) (pieces n place.size joined)) needed
    (subst (λ (l : List ℕ). AreBlocksTold old.ueb place.segment (picked_numbers l positions) (map (leaves_held new.held) positions) (pieces c.loop-candidates.reading.geometry.needed place.size joined)) k.numbers
    (subst (λ (u : Contents). AreBlocksTold u place.segment (picked_numbers mid.numbers positions) (map (leaves_held new.held) positions) (pieces c.loop-candidates.reading.geometry.needed place.size joined)) k.ueb (round.told c.if-branch.true))) in
    let numbers : AreShareNumbers geometry (picked_numbers old.numbers positions) =
    subst (λ (l : List ℕ). AreShareNumbers geometry (picked_numbers l positions)) same
    (subst (λ h. AreShareNumbers h (picked_numbers new.numbers positions)) after round.reading.numbers) in
    let times : c.decode.result ≡ geometry.needed * block_length geometry c.args.number = c.decode.ensures.long ∙ (λ q. (after q).needed * size q) in
    let room : length c.decode.new.reading.segment.items ≡ geometry.segment_size = c.decode.ensures.reading.segment ∙ ap (λ h. h.segment_size) (c.decode.ensures.geometry ∙ after) in
    let long : length text ≡ geometry.needed * block_length geometry c.args.number =
    length-take-le c.decode.result c.decode.new.reading.segment.items (omega (arith, times, room, blocks_fit geometry c.args.number)) ∙ times in
    let made = shares_by c.read_round.new.reading.geometry.needed geometry.needed text text (picked_numbers c.numbers.result.now positions) (picked_numbers old.numbers positions)
    (pieces c.read_round.new.reading.geometry.needed place.size joined) (pieces geometry.needed place.size joined)
    (ap (λ h. h.needed) after) refl (ap (λ (l : List ℕ). picked_numbers l positions) (c.numbers.ensures.numbers ∙ same)) (ap (λ h. pieces h.needed place.size joined) after) c.decode.ensures.shares in
    subst (λ (ps : List ℕ). IsSegmentDecoded gives fails geometry c.args.number old text ps new) (sym c.decode.ensures.positions)
    (segment_decoded gives fails geometry c.args.number old mid new k.asked.0 last.0 text positions joined place c.of-place.ensures.place
    (round.reading.blocks ∙ ap (λ h. h.segment_size) after) numbers long k.asked.1 read told made)

pub loop-candidates-preserved : goal.loop-candidates-preserved
loop-candidates-preserved g c =
    let k = c.loop-candidates.invariant in
    let round = c.in_ok-read_round.ensures in
    let more = round.refused c.if-branch.false in
    record {
      reading = round.reading;
      geometry = round.geometry ∙ k.geometry;
      ueb = round.ueb ∙ k.ueb;
      numbers = round.numbers ∙ k.numbers;
      read_on = λ i p at left. round.read_on i p (k.read_on i p at (round.struck p left)) left;
      asked = (
        k.asked.0 ++ more.0.0,
        asked_append g.B.ShareBytes.gives g.B.ShareBytes.fails c.of-place.result k.asked.0 more.0.0 c.args.candidates.now c.loop-candidates.candidates c.read_round.new.candidates k.asked.1 more.0.1,
      );
    }

-- what holds is told with an error
on_err : {T E X : Type 0} (r : Result T E) → X → OnErr r X
on_err (Ok v) x = search rules
on_err (Err e) x = x

pub returns-in_err-read_round-clause-asked : goal.returns-in_err-read_round-clause-asked
returns-in_err-read_round-clause-asked g c =
    let gives = g.B.ShareBytes.gives in
    let fails = g.B.ShareBytes.fails in
    let k = c.loop-candidates.invariant in
    let old : Candidates _ = c.args.candidates.now in
    let new : Candidates _ = c.read_round.new.candidates in
    let more = c.in_err-read_round.ensures.asked in
    let reads : List ShareRead = k.asked.0 ++ more.0 in
    on_err c.from_residual.result (
      reads,
      subst (λ (place : Place). AreSharesRead gives fails place old reads new) c.of-place.ensures.place
          (asked_append gives fails c.of-place.result k.asked.0 more.0 old c.loop-candidates.candidates new k.asked.1 more.1),
    )
