use Rattle.std.proofs.Common.{◌≡◌, refl, sym, get_or, length, List, [], ℕ, ◌∙◌, arith}
use Rattle.std.proofs.lemmas.List.{get_or_read}
use Rattle.sha2_lanes.proofs.GroupLemmas.{round_step}
use Rattle.sha2_lanes.proofs.Lanes.{lane_word}
use Rattle.sha2.specs.Sha256.{schedule}
use Rattle.sha2_lanes.proofs.group.step.Goals as goal

pub returns : goal.returns
returns c = λ b h is held.
    let all : List (List ℕ) = c.args.all.now in
    let j : ℕ = c.args.j in
    let t : ℕ = c.args.t in
    let many : length all ≡ 64 = c.requires.vectors.count in
    let long : length (get_or all t []) ≡ 8 = c.requires.vectors.each t [] (omega arith) in
    let word : c.index.result.now ≡ get_or (get_or all t []) j 0 = get_or_read (get_or all t []) j c.index.result.now (omega arith) c.index.ensures 0 in
    round_step h (schedule b 48) c.args.v t _ _ c.round.result held refl refl
    (c.round.ensures _ _ (word ∙ sym (lane_word all j t (omega arith)) ∙ is t c.requires.round))
