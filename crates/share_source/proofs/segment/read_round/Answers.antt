use Rattle.std.proofs.Common.{◌≡◌, ℕ, ◌<◌, ◌++◌, Bool, List, length, ap, sym, subst, ◌∙◌, arith}
use Rattle.std.specs.Prelude.{slice_index}
use Rattle.std.specs.Vec.{with_items}
use Rattle.std.proofs.lemmas.List.{length-map, with_items_is}
use Rattle.share_layout.specs.Pieces.{pieces}
use Rattle.share_source.specs.Candidates.{AreSharesRead, ShareRead}
use Rattle.share_source.specs.Decoded.{blocks_read}
use Rattle.share_source.specs.Reading.{unstruck_count}
use Rattle.share_source.proofs.Asking.{asked_append}
use Rattle.share_source.proofs.segment.read_round.Goals as goal

pub returns-clause-read : goal.returns-clause-read
returns-clause-read g c = λ yes.
    let gives = g.B.ShareBytes.gives in
    let fails = g.B.ShareBytes.fails in
    let held = c.in_ok-hold_leaves.ensures.read in
    let size : ℕ = c.args.place.size in
    let needed : ℕ = c.args.reading.now.geometry.needed in
    let shown : List ℕ = c.deref-2.result.now in
    let positions : List ℕ = c.refill.new.self.positions.items in
    let made : List ℕ = c.read_blocks.new.blocks in
    let joined : List ℕ = (with_items c.refill.new.self.blocks made).items in
    let now : joined ≡ made = with_items_is c.refill.new.self.blocks made (omega (arith, c.read_blocks.auto.blocks, ap length c.deref_mut.ensures.value, c.refill.new.self.blocks.ok.0)) in
    let same : length shown ≡ needed = ap length c.deref-2.ensures.value ∙ sym (length-map positions (slice_index c.args.candidates.now.numbers))
    ∙ c.in_ok-refill.ensures.reading.numbers.enough ∙ ap (λ h. h.needed) c.in_ok-refill.ensures.geometry in
    let blocks : pieces (length shown) size made ≡ pieces needed size joined = λ q. pieces (same q) size (sym now q) in
    let reads : blocks_read shown (pieces (length shown) size made) ≡ blocks_read positions (pieces needed size joined) = λ q. blocks_read (c.deref-2.ensures.value q) (blocks q) in (
      held.0,
      asked_append gives fails c.args.place held.0 (blocks_read positions (pieces needed size joined)) c.args.candidates.now c.hold_leaves.new.self c.read_blocks.new.self (held.1 c.args.place)
          (subst (λ (rs : List ShareRead). AreSharesRead gives fails c.args.place c.hold_leaves.new.self rs c.read_blocks.new.self) reads (c.read_blocks.ensures.read yes)),
    )

pub returns-clause-refused : goal.returns-clause-refused
returns-clause-refused g c = λ no.
    let held = c.in_ok-hold_leaves.ensures.read in
    let more = c.read_blocks.ensures.refused no in (
      (
        held.0 ++ more.0.0,
        asked_append g.B.ShareBytes.gives g.B.ShareBytes.fails c.args.place held.0 more.0.0 c.args.candidates.now c.hold_leaves.new.self c.read_blocks.new.self (held.1 c.args.place) more.0.1,
      ),
      subst (λ (s : List Bool). unstruck_count c.read_blocks.new.self.struck < unstruck_count s) (c.in_ok-hold_leaves.ensures.left c.if-not-branch.false) more.1,
    )
