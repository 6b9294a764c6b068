use Rattle.std.proofs.Common.{◌≡◌, ◌∙◌, ◌*◌, ◌<◌, List, ℕ, inl, inr, ap, arith, add-mul, subst, sym, take, drop, get_or, slice_get, Some}
use Rattle.std.proofs.lemmas.Bool.{cases_lt, true≢false}
use Rattle.std.proofs.lemmas.List.{drop-drop}
use Rattle.std.proofs.lemmas.List.Elements.{Contains-get_or}
use Rattle.std.proofs.lemmas.Option.{slice_get-get_or}
use Rattle.lemmas.proofs.Options.{one_there}
use Rattle.lemmas.proofs.Positions.{got}
use Rattle.download_supply.specs.Supply.{SupplyState}
use Rattle.download_supply.specs.Taking.{IsProved}
use Rattle.download_segments.specs.GroupMaking.{nth_block}
use Rattle.download_file.specs.State.{ReaderState}
use Rattle.download_file.proofs.blocks.find_wrong.Goals as goal

pub proves-requires : goal.proves-requires
proves-requires c =
    let i = c.loop-position.position-index in
    let at = got c.args.readers.now _ c.index-readers-position.result (c.requires.there i 0 c.loop-position-test.true) c.index-readers-position.is in
    let ready = c.requires.ready (get_or c.args.positions.now i 0) c.index-readers-position.result (Contains-get_or c.args.positions.now i 0 c.loop-position-test.true) at in
    subst (λ (s : SupplyState). c.args.number < s.end) (sym c.supply.ensures) ready.held.within.before

pub returns-then-not-proves-clause-wrong : goal.returns-then-not-proves-clause-wrong
returns-then-not-proves-clause-wrong c =
    let i = c.loop-position.position-index in
    let block : c.split_at.result.0.now ≡ nth_block c.args.joined.now c.args.size i = c.split_at.ensures.front ∙ ap (take c.args.size) c.loop-position.invariant.rest in
    record {
      k = i;
      at = slice_get-get_or c.args.positions.now i 0 c.loop-position-test.true;
      r = c.index-readers-position.result;
      there = got c.args.readers.now _ c.index-readers-position.result (c.requires.there i 0 c.loop-position-test.true) c.index-readers-position.is;
      not = λ proved. true≢false (sym (c.proves.ensures.1
          (subst (λ (s : SupplyState). IsProved s c.args.number c.split_at.result.0.now) (sym c.supply.ensures)
          (subst (λ (b : List ℕ). IsProved c.index-readers-position.result.supply c.args.number b) (sym block) proved))) ∙ c.if-not-proves.true);
    }

pub loop-position-preserved : goal.loop-position-preserved
loop-position-preserved c =
    let i = c.loop-position.position-index in
    let k = c.loop-position.invariant in
    let joined : List ℕ = c.args.joined.now in
    let positions : List ℕ = c.args.positions.now in
    let readers : List ReaderState = c.args.readers.now in
    let size : ℕ = c.args.size in
    let r : ReaderState = c.index-readers-position.result in
    let at : slice_get readers (get_or positions i 0) ≡ Some r = got readers (get_or positions i 0) r (c.requires.there i 0 c.loop-position-test.true) c.index-readers-position.is in
    let block : c.split_at.result.0.now ≡ nth_block joined size i = c.split_at.ensures.front ∙ ap (take size) k.rest in
    let proved : IsProved r.supply c.args.number (nth_block joined size i) =
    subst (λ (b : List ℕ). IsProved r.supply c.args.number b) block
    (subst (λ (s : SupplyState). IsProved s c.args.number c.split_at.result.0.now) c.supply.ensures (c.proves.ensures.0 c.if-not-proves.false)) in
    record {
      rest = c.split_at.ensures.back ∙ ap (drop size) k.rest ∙ drop-drop size (i * size) joined
          ∙ ap (λ (n : ℕ). drop n joined) (omega (arith, add-mul i 1 size));
      proved = λ j position s low is there. elim (cases_lt j i) [
        | inl before ↦ k.proved j position s before is there
        | inr not ↦
            let same : j ≡ i = omega (arith, low, not) in
            let one : get_or positions i 0 ≡ position = one_there (slice_get positions j) (get_or positions i 0) position
            (ap (slice_get positions) same ∙ slice_get-get_or positions i 0 c.loop-position-test.true) is in
            let other : r ≡ s = one_there (slice_get readers position) r s (ap (slice_get readers) (sym one) ∙ at) there in
            subst (λ (t : ReaderState). IsProved t.supply c.args.number (nth_block joined size j)) other
            (subst (λ (n : ℕ). IsProved r.supply c.args.number (nth_block joined size n)) (sym same) proved)
      ];
    }
