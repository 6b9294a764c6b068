use Rattle.std.proofs.Common.{◌≡◌, ◌+◌, ◌*◌, ◌%◌, ◌≤◌, ℕ, List, ◌++◌, drop, get_or, length, take, inl, inr, ap, subst, ◌∙◌, arith, length-append, length-drop, length-take-le}
use Rattle.sha2_lanes.specs.Lanes.{text}
use Rattle.sha2_lanes.specs.Stream.{HoldsIn}
use Rattle.sha2_lanes.proofs.SideBySide.{three_parts, two_parts}
use Rattle.sha2_lanes.proofs.side_by_side.update_eight.Goals as goal
use Rattle.sha2_lanes.proofs.side_by_side.update_eight.Goals.{then-count-gt0, else-count-gt0}

pub returns : goal.returns
returns c = λ j m below held.
    let piece : List ℕ = text c.args.pieces.now j in
    let a : ℕ = get_or c.fill_each-starts.result j 0 in
    let n : ℕ = 512 * c.groups_in_all-count.result in
    let filled = c.fill_each-starts.ensures.given j m below held in
    let within = c.fill_each-starts.ensures.within j below in
    let rest : text c.rests_of-rests.result j ≡ drop a piece = c.rests_of-rests.ensures j below in
    let enough = c.groups_in_all-count.ensures.within j below in
    elim c.if-count-gt0.branch [
      | then-count-gt0 w ↦
          let first : length (m ++ take a piece) ≡ length m + a = length-append m (take a piece) ∙ ap (λ (k : ℕ). length m + k) (length-take-le a piece within) in
          let left : length (drop a piece) + a ≡ length piece = omega (arith, length-drop a piece, within) in
          let more : n + a ≤ length piece = omega (arith, left, ap length rest, enough) in
          let edge : length (m ++ take a piece) % 512 ≡ 0 = elim (c.fill_each-starts.ensures.edges j m below held) [
            | inl all ↦ absurd (omega (arith, all, more, w.if-count-gt0.true))
            | inr edge ↦ omega (arith, first, edge)
          ] in
          let grown = w.add_groups.ensures j (m ++ take a piece) below edge filled in
          let placed : HoldsIn c.if-count-gt0.streams j ((m ++ take a piece) ++ take n (drop a piece)) = rw w.streams-is (rw rest at grown) in
          subst (HoldsIn c.add_rests.new.streams j) (three_parts m piece a n)
          (subst (λ (l : List ℕ). HoldsIn c.add_rests.new.streams j (((m ++ take a piece) ++ take n (drop a piece)) ++ drop n l)) rest
          (c.add_rests.ensures j ((m ++ take a piece) ++ take n (drop a piece)) below placed))
      | else-count-gt0 w ↦
          let none : n ≡ 0 = omega (arith, w.if-count-gt0.false) in
          let placed : HoldsIn c.if-count-gt0.streams j (m ++ take a piece) = rw w.streams-is filled in
          subst (HoldsIn c.add_rests.new.streams j) (two_parts m piece a n none)
          (subst (λ (l : List ℕ). HoldsIn c.add_rests.new.streams j ((m ++ take a piece) ++ drop n l)) rest
          (c.add_rests.ensures j (m ++ take a piece) below placed))
    ]
