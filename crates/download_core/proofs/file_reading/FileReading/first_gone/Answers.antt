use Rattle.std.proofs.Common.{◌∙◌, ℕ, inl, inr, IfNone, IfSome, List, Contains, Option, Some, None, ap, subst, sym}
use Rattle.download_file.specs.State.{IsHeard}
use Rattle.download_core.specs.Reading.{IsGone}
use Rattle.download_core.specs.ReadingState.{ReadingState}
use Rattle.download_core.proofs.file_reading.FileReading.first_gone.Goals as goal

if_some : (o : Option ℕ) (P Q : ℕ → Type 0) → IfSome o P → ((x : ℕ) → P x → Q x) → IfSome o Q
if_some None P Q is more = tt
if_some (Some x) P Q is more = more x is

if_none : (o : Option ℕ) (P Q : Type 0) → IfNone o P → (P → Q) → IfNone o Q
if_none None P Q is more = more is
if_none (Some x) P Q is more = tt

pub gone_among-requires-clause-heard : goal.gone_among-requires-clause-heard
gone_among-requires-clause-heard c = λ reader among.
    inl (subst (λ (l : List ℕ). Contains l reader) (c.live.ensures.value ∙ ap (λ (x : ReadingState). x.file.live) c.self.view_is) among)

pub gone_among-requires-in-None-clause-heard : goal.gone_among-requires-in-None-clause-heard
gone_among-requires-in-None-clause-heard c = λ reader among.
    inr (subst (λ (l : List ℕ). Contains l reader) (c.aside.ensures.value ∙ ap (λ (x : ReadingState). x.file.aside) c.self.view_is) among)

pub returns-in-Some-clause-live : goal.returns-in-Some-clause-live
returns-in-Some-clause-live c =
    inl (subst (λ (l : List ℕ). Contains l c.in-Some.reader) (c.live.ensures.value ∙ ap (λ (x : ReadingState). x.file.live) c.self.view_is) c.in-Some.ensures.among)

pub returns-in-None-clause-live : goal.returns-in-None-clause-live
returns-in-None-clause-live c =
    if_some c.gone_among-in-None.result (Contains c.aside.result.now) (IsHeard c.args.self.now.file) c.gone_among-in-None.ensures.among
    (λ reader among. inr (subst (λ (l : List ℕ). Contains l reader) (c.aside.ensures.value ∙ ap (λ (x : ReadingState). x.file.aside) c.self.view_is) among))

pub returns-in-None-clause-none : goal.returns-in-None-clause-none
returns-in-None-clause-none c =
    if_none c.gone_among-in-None.result _ ((reader : ℕ) → IsHeard c.args.self.now.file reader → IsGone c.args.beginnings.now c.args.self.now reader → ⊥) c.gone_among-in-None.ensures.none
    (λ none reader heard gone. elim heard [
      | inl live ↦ c.in-None.ensures.none reader (subst (λ (l : List ℕ). Contains l reader) (sym (c.live.ensures.value ∙ ap (λ (x : ReadingState). x.file.live) c.self.view_is)) live) gone
      | inr aside ↦ none reader (subst (λ (l : List ℕ). Contains l reader) (sym (c.aside.ensures.value ∙ ap (λ (x : ReadingState). x.file.aside) c.self.view_is)) aside) gone
    ])
