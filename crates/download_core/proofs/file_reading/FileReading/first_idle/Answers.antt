use Rattle.std.proofs.Common.{◌≡◌, ◌∙◌, ℕ, ◌<◌, ◌≤◌, List, Contains, length, get_or, sym, subst, ap, arith, true≢false}
use Rattle.std.proofs.lemmas.List.{take_all}
use Rattle.std.proofs.lemmas.List.Elements.{Contains-get_or}
use Rattle.download_core.specs.ReadingState.{ReadingState}
use Rattle.download_core.specs.ReadingSteps.{IsIdle}
use Rattle.download_core.proofs.Listed.{none_more}
use Rattle.download_core.proofs.file_reading.FileReading.first_idle.Goals as goal

pub loop-reader-preserved : goal.loop-reader-preserved
loop-reader-preserved c =
    let list : c.aside-reader-items.result.now ≡ c.args.self.now.file.aside = c.aside-reader-items.ensures.value ∙ ap (λ (x : ReadingState). x.file.aside) c.self.view_is in
    let lt : c.loop-reader.reader-index < length c.args.self.now.file.aside = (let t = c.loop-reader-test.true in let l = ap length list in omega (arith, t, l)) in
    none_more {P = IsIdle c.args.self.now.file} c.args.self.now.file.aside c.loop-reader.reader-index 0 lt c.loop-reader.invariant
    (subst (λ (l : List ℕ). IsIdle c.args.self.now.file (get_or l c.loop-reader.reader-index 0) → ⊥) list
    (λ idle. true≢false (sym (c.is_idle.ensures.1 idle.idle) ∙ c.if-is_idle.false)))

pub returns-then-is_idle-clause-idle : goal.returns-then-is_idle-clause-idle
returns-then-is_idle-clause-idle c =
    let list : c.aside-reader-items.result.now ≡ c.args.self.now.file.aside = c.aside-reader-items.ensures.value ∙ ap (λ (x : ReadingState). x.file.aside) c.self.view_is in
    record {
      aside = subst (λ (l : List ℕ). Contains l (get_or c.aside-reader-items.result.now c.loop-reader.reader-index 0)) list
          (Contains-get_or c.aside-reader-items.result.now c.loop-reader.reader-index 0 c.loop-reader-test.true);
      idle = c.is_idle.ensures.0 c.if-is_idle.true;
    }

pub returns-clause-none : goal.returns-clause-none
returns-clause-none c = λ reader idle.
    let list : c.aside-reader-items.result.now ≡ c.args.self.now.file.aside = c.aside-reader-items.ensures.value ∙ ap (λ (x : ReadingState). x.file.aside) c.self.view_is in
    let le : length c.args.self.now.file.aside ≤ c.loop-reader.reader-index = (let t = c.loop-reader-test.false in let l = ap length list in omega (arith, t, l)) in
    c.loop-reader.invariant reader (subst (λ (l : List ℕ). Contains l reader) (sym (take_all c.loop-reader.reader-index c.args.self.now.file.aside le)) idle.aside) idle
