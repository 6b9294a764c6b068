use Rattle.std.proofs.Common.{◌≡◌, ◌++◌, ℕ, List, ap, map, refl, subst, sym, ◌∙◌, arith}
use Rattle.download_segments.specs.Handout.{ProvesRow, first_handed_out}
use Rattle.download_segments.specs.State.{HandoutState, IsHandout, handout_state}
use Rattle.download_segments.specs.declared.piece.Piece.{Piece}
use Rattle.download_segments.proofs.RowLemmas.{row_state}
use Rattle.download_segments.proofs.handout.Handout.hand_out_row.Goals as goal

pub invariant_of-self-2 : goal.invariant_of-self-2
invariant_of-self-2 c =
    let h = c.args.self.now in
    let segments : List (List ℕ) = map (λ s. s.items) c.args.segments.items in
    let pieces : List Piece = c.in_ok-pieces.pieces.items in
    let right : IsHandout h = subst IsHandout c.self.view_is c.self.invariant in
    let proves : ProvesRow h c.args.number segments =
    subst (λ l. ProvesRow h c.args.number (map (λ s. s.items) l)) c.deref.ensures.value (c.proves_row.ensures.0 c.if-not-proves_row.false) in
    let base : HandoutState = handout_state c.self.inside.cipher c.self.inside.ueb c.self.inside.geometry c.self.inside.trees c.self.inside.to c.self.inside.handed c.self.inside.reached c.self.inside.ready.items in
    let new : HandoutState = record base { reached = c.in_ok-pieces.reached; ready = c.append.new.self.items } in
    let is : new ≡ first_handed_out h segments 8 =
    (λ i. record base { reached = c.in_ok-pieces.reached; ready = c.in_ok-append.ensures.items i })
    ∙ ap (λ (x : HandoutState). record x { reached = c.in_ok-pieces.reached; ready = x.ready ++ pieces }) c.self.view_is
    ∙ c.in_ok-pieces.ensures in
    subst IsHandout (sym is) (row_state h c.args.number segments right c.requires.next c.requires.wanted proves 8 (omega arith)).right

pub returns-clause-proved : goal.returns-clause-proved
returns-clause-proved c = (
  λ _. subst (λ l. ProvesRow c.args.self.now c.args.number (map (λ s. s.items) l)) c.deref.ensures.value (c.proves_row.ensures.0 c.if-not-proves_row.false),
  λ _. refl,
)

pub returns-clause-right : goal.returns-clause-right
returns-clause-right c = invariant_of-self-2 c
