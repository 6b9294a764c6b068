use Rattle.std.proofs.Common.{◌≡◌, ◌∙◌, ℕ, List, [], ◌∷◌, Some, None, ap, refl, sym, slice_get}
use Rattle.download_file.proofs.LiveLemmas.{first_live}
use Rattle.download_core.specs.ReadingState.{ReadingState}
use Rattle.download_core.proofs.Ended.{continues_none}
use Rattle.download_core.proofs.file_reading.FileReading.resume_first.Goals as goal

none_first : (xs : List ℕ) → slice_get xs 0 ≡ None → xs ≡ []
none_first [] e = refl
none_first (x ∷ xs) e = absurd (let k : Some x ≡ None = e in cc)

pub resume-requires-clause-aside : goal.resume-requires-clause-aside
resume-requires-clause-aside c =
    let list : c.aside.result.now ≡ c.args.self.now.file.aside = c.aside.ensures.value ∙ ap (λ (x : ReadingState). x.file.aside) c.self.view_is in
    first_live c.args.self.now.file.aside c.in-Some.reader
    (ap (λ (l : List ℕ). slice_get l 0) (sym list) ∙ sym (c.copied.ensures ∙ c.first.ensures.value) ∙ c.in-Some.is)

pub returns-in-None-clause-none : goal.returns-in-None-clause-none
returns-in-None-clause-none c = λ _.
    let list : c.aside.result.now ≡ c.args.self.now.file.aside = c.aside.ensures.value ∙ ap (λ (x : ReadingState). x.file.aside) c.self.view_is in
    none_first c.args.self.now.file.aside
    (ap (λ (l : List ℕ). slice_get l 0) (sym list) ∙ sym (c.copied.ensures ∙ c.first.ensures.value) ∙ c.in-None.is)

pub returns-in-None-clause-continues : goal.returns-in-None-clause-continues
returns-in-None-clause-continues c = continues_none c.args.beginnings.now c.args.self.now
