use Rattle.std.proofs.Common.{◌≡◌, ℕ, ◌+◌, ◌<◌, Bool, List, Some, false, get_or, length, take, ap, sym, subst, ◌∙◌, arith}
use Rattle.std.specs.Prelude.{slice_get}
use Rattle.std.proofs.lemmas.List.{get_or_default, take_all, take_more}
use Rattle.std.proofs.lemmas.List.Elements.{All-push}
use Rattle.lemmas.proofs.Positions.{got}
use Rattle.share_source.specs.Candidates.{AreReadOn}
use Rattle.share_source.specs.Reading.{AreLeft, IsReadingOf}
use Rattle.share_source.specs.declared.reading.Reading.{Reading}
use Rattle.share_source.proofs.Striking.{read_on_more}
use Rattle.share_source.proofs.reading.Reading.refill.Goals as goal
use Rattle.share_source.proofs.reading.Reading.refill.Goals.{then-not-is_left+in_ok-replace, else-not-is_left}

pub loop-index-preserved : goal.loop-index-preserved
loop-index-preserved g c =
    let struck : List Bool = c.args.candidates.now.struck in
    let index : ℕ = c.loop-index.index in
    let k = c.loop-index.invariant in
    let old : List ℕ = c.loop-index.self.positions.items in
    let within : index < length old = omega (arith, c.loop-index-test.true, c.len-index-end.ensures, k.count, c.args.self.now.positions.ok.0) in
    let first : List ℕ = c.args.self.now.positions.items in
    let at : slice_get old index ≡ Some c.index.result.now = got old index c.index.result.now within c.index.ensures in
    elim c.if-not-is_left.branch [
      | then-not-is_left+in_ok-replace w ↦ (
          let more = w.in_ok-replace.ensures in
          let new : List ℕ = w.replace.new.self.positions.items in
          record {
            reading = subst (IsReadingOf c.args.candidates.now.numbers) (sym w.self-is) more.reading;
            geometry = ap (λ r. r.geometry) w.self-is ∙ more.geometry ∙ k.geometry;
            count = ap (λ r. length r.positions.items) w.self-is ∙ more.count ∙ k.count;
            read_on = subst (λ (r : Reading). AreReadOn first struck r.positions.items) (sym w.self-is)
                (read_on_more struck first old new index c.index.result.now k.read_on at w.if-not-is_left.ensures more.others);
            left = subst (λ (r : Reading). AreLeft struck (take (index + 1) r.positions.items)) (sym w.self-is)
                (subst (AreLeft struck) (sym (take_more new index 0 (omega (arith, within, more.count))))
                (All-push (λ p. slice_get struck p ≡ Some false) (take index new) (get_or new index 0) (subst (AreLeft struck) (sym more.before) k.left) more.left));
          })
      | else-not-is_left w ↦ record {
        reading = subst (IsReadingOf c.args.candidates.now.numbers) (sym w.self-is) k.reading;
        geometry = ap (λ r. r.geometry) w.self-is ∙ k.geometry;
        count = ap (λ r. length r.positions.items) w.self-is ∙ k.count;
        read_on = subst (λ (r : Reading). AreReadOn first struck r.positions.items) (sym w.self-is) k.read_on;
        left = subst (λ (r : Reading). AreLeft struck (take (index + 1) r.positions.items)) (sym w.self-is)
            (subst (AreLeft struck) (sym (take_more old index 0 within))
            (All-push (λ p. slice_get struck p ≡ Some false) (take index old) (get_or old index 0) k.left
            (subst (λ p. slice_get struck p ≡ Some false) (c.index.ensures ∙ get_or_default old index c.index.result.now 0 within) w.if-not-is_left.ensures)));
      }
    ]

pub returns-clause-left : goal.returns-clause-left
returns-clause-left g c =
    let k = c.loop-index.invariant in
    let positions : List ℕ = c.loop-index.self.positions.items in
    let whole : take c.loop-index.index positions ≡ positions = take_all c.loop-index.index positions (omega (arith, k.count, c.loop-index-test.false, c.len-index-end.ensures, c.args.self.now.positions.ok.0)) in
    subst (AreLeft c.args.candidates.now.struck) whole k.left
