use Rattle.std.proofs.Common.{◌≡◌, ◌≢◌, ◌∙◌, ◌<◌, ◌∷◌, [], inl, inr, ℕ, List, All, Contains, Some, true, ap, arith, refl, subst, sym, length, slice_get}
use Rattle.std.proofs.lemmas.Bool.{eq-eqb, eqb-true, true≢false}
use Rattle.lemmas.proofs.Members.{contains_cases, contains_none}
use Rattle.download_file.specs.Steps.{CanGive}
use Rattle.download_file.proofs.EndLemmas.{one_only, only_one}
use Rattle.download_file.proofs.reader.resume_reader.Goals as goal

pub give_first-requires-clause-there : goal.give_first-requires-clause-there
give_first-requires-clause-there c = only_one (λ position. position < length c.args.readers.now.items) c.args.reader c.requires.there

pub give_first-requires-clause-gives : goal.give_first-requires-clause-gives
give_first-requires-clause-gives c = λ position r among at.
    let one : c.args.reader ≡ position = one_only c.args.reader position among in
    c.requires.gives r (ap (slice_get c.args.readers.now.items) one ∙ at)

pub returns-then-alone-clause-resumes : goal.returns-then-alone-clause-resumes
returns-then-alone-clause-resumes c =
    inr (none_there c.args.live.now.items (sym c.args.live.now.ok.0 ∙ eqb-true c.args.live.now.len 0 (sym c.is_empty-alone.ensures ∙ c.if-alone.true)), c.give_first.ensures)
  where
    none_there : (xs : List ℕ) → length xs ≡ 0 → xs ≡ []
    none_there [] e = refl
    none_there (x ∷ xs) e = absurd (omega (arith, e))

pub returns-else-alone-clause-resumes : goal.returns-else-alone-clause-resumes
returns-else-alone-clause-resumes c =
    inl ((λ none. true≢false (sym (c.is_empty-alone.ensures ∙ eq-eqb c.args.live.now.len 0 (c.args.live.now.ok.0 ∙ ap length none)) ∙ c.if-alone.false)), refl)
