use Rattle.std.proofs.Common.{◌≡◌, ◌<◌, ◌≤◌, ℕ, ◌+◌, List, ◌∷◌, [], ◌++◌, get_or, length, take, refl, sym, subst, ap, inl, inr, ◌∙◌}
use Rattle.std.specs.Prelude.{◌==◌, count_by}
use Rattle.lemmas.proofs.Bools.{bool_cases}
use Rattle.std.proofs.lemmas.List.{take_all, take_more}
use Rattle.checker.specs.Report.{is_good}
use Rattle.checker.specs.declared.status.ShareVerdict.{ShareVerdict}
use Rattle.share_reading.specs.declared.verdict.Verdict.TheVariants.{Good}
use Rattle.carried_operations.specs.declared.range.SharePlace.{SharePlace}
use Rattle.grid_repairs.proofs.Chosen.{Chosen, chosen_enough, chosen_more, chosen_other}
use Rattle.grid_repairs.proofs.choosing.candidate_places.Goals as goal
use Rattle.grid_repairs.proofs.choosing.candidate_places.Goals.{then-is_wanted+in_ok-push, else-is_wanted}

abbrev any_verdict : ShareVerdict
any_verdict = record { server = 0; share = 0; verdict = Good }

-- one verdict more
grown : (vs : List ShareVerdict) (i : ℕ) (places were : List SharePlace) → i < length vs → places ≡ were → Chosen (take i vs ++ get_or vs i any_verdict ∷ []) were → Chosen (take (i + 1) vs) places
grown vs i places were here same c = subst (λ (l : List ShareVerdict). Chosen l places) (sym (take_more vs i any_verdict here)) (subst (λ (ps : List SharePlace). Chosen (take i vs ++ get_or vs i any_verdict ∷ []) ps) (sym same) c)

pub verdicts-preserved : goal.verdicts-preserved
verdicts-preserved c =
    let vs = c.args.verdicts.now in
    let i : ℕ = c.verdicts.found-index in
    let v : ShareVerdict = get_or vs i any_verdict in
    let old : List SharePlace = c.verdicts.places.items in
    let place : SharePlace = record { server = v.server; share = v.share } in
    elim c.if-is_wanted.branch [
      | then-is_wanted+in_ok-push w ↦ (
          let wanted = c.is_wanted.ensures.yes w.if-is_wanted.true in
          let few : count_by (λ (p : SharePlace). p.share == v.share) old < 2 = subst (λ (ps : List SharePlace). count_by (λ (p : SharePlace). p.share == v.share) ps < 2) c.deref.ensures.value wanted.1 in
          grown vs i c.if-is_wanted.places.items (old ++ place ∷ []) c.verdicts-test.true (ap (λ ps. ps.items) w.places-is ∙ w.in_ok-push.ensures.items)
          (chosen_more (take i vs) v old place refl refl wanted.0 few c.verdicts.invariant))
      | else-is_wanted w ↦
          grown vs i c.if-is_wanted.places.items old c.verdicts-test.true (ap (λ ps. ps.items) w.places-is) (elim (bool_cases (is_good v.verdict)) [
            | inl good ↦
                chosen_enough (take i vs) v old good (subst (λ (ps : List SharePlace). 2 ≤ count_by (λ (p : SharePlace). p.share == v.share) ps) c.deref.ensures.value (c.is_wanted.ensures.no w.if-is_wanted.false good)) c.verdicts.invariant
            | inr other ↦ chosen_other (take i vs) v old other c.verdicts.invariant
          ])
    ]

pub returns-clause-good : goal.returns-clause-good
returns-clause-good c =
    let all : take c.verdicts.found-index c.args.verdicts.now ≡ c.args.verdicts.now = take_all c.verdicts.found-index c.args.verdicts.now c.verdicts-test.false in
    (subst (λ (vs : List ShareVerdict). Chosen vs c.verdicts.places.items) all c.verdicts.invariant).good

pub returns-clause-all : goal.returns-clause-all
returns-clause-all c =
    let all : take c.verdicts.found-index c.args.verdicts.now ≡ c.args.verdicts.now = take_all c.verdicts.found-index c.args.verdicts.now c.verdicts-test.false in
    (subst (λ (vs : List ShareVerdict). Chosen vs c.verdicts.places.items) all c.verdicts.invariant).all
