use Rattle.std.proofs.Common.{◌*◌, ℕ, List, take, drop, sym, arith}
use Rattle.std.proofs.lemmas.Simd.{length-chunk}
use Rattle.sha2_lanes.proofs.Padding.{same_eight}
use Rattle.sha2_lanes.proofs.ScheduleLemmas.{part_of, room_of_eight}
use Rattle.sha2_lanes.proofs.schedule.first_words.Goals as goal

pub slice_bounds-words-end : goal.slice_bounds-words-end
slice_bounds-words-end c = sym (length-chunk 0 64 c.args.group.now (omega arith))

pub words-requires-clause-room : goal.words-requires-clause-room
words-requires-clause-room c =
    let g : List ℕ = c.args.group.now in
    room_of_eight _ _ _ _ _ _ _ _
    (length-chunk 0 64 g (omega arith)) (length-chunk 64 64 g (omega arith)) (length-chunk 128 64 g (omega arith)) (length-chunk 192 64 g (omega arith))
    (length-chunk 256 64 g (omega arith)) (length-chunk 320 64 g (omega arith)) (length-chunk 384 64 g (omega arith)) (length-chunk 448 64 g (omega arith))

pub returns : goal.returns
returns c =
    let g : List ℕ = c.args.group.now in
    same_eight (λ j. take 64 (drop (j * 64) g)) c.words.ensures
    (part_of g 0 (omega arith)) (part_of g 64 (omega arith)) (part_of g 128 (omega arith)) (part_of g 192 (omega arith))
    (part_of g 256 (omega arith)) (part_of g 320 (omega arith)) (part_of g 384 (omega arith)) (part_of g 448 (omega arith))
