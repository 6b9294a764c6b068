use Rattle.std.proofs.Common.{◌≡◌, ◌+◌, List, ◌∷◌, ℕ, length, subst, sym, rules}
use Rattle.download_segments.specs.State.{HandoutState, IsHandout, handout_state}
use Rattle.download_segments.proofs.HandoutLemmas.{right_taken}
use Rattle.download_segments.proofs.handout.Handout.take.Goals as goal

pub invariant_of-self-2 : goal.invariant_of-self-2
invariant_of-self-2 c =
    let h : HandoutState = handout_state c.self.inside.cipher c.self.inside.ueb c.self.inside.geometry c.self.inside.trees c.self.inside.to c.self.inside.handed c.self.inside.reached c.self.inside.ready.items in
    let p = c.in_ok-piece.piece in
    let ps = c.pop_front.new.self.items in
    let is : h.ready ≡ p ∷ ps = search rules in
    subst (λ (l : List ℕ). IsHandout (record h { ready = ps; handed = p.offset + length l })) (sym c.as_slice.ensures)
    (right_taken h p ps c.self.invariant is)

pub returns-clause-right : goal.returns-clause-right
returns-clause-right c = invariant_of-self-2 c
