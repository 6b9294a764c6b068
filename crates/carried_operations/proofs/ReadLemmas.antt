-- What a read of a share comes to.
use Rattle.std.proofs.Common.{◌≡◌, ◌⊎◌, ℕ, List, Some, Bool, refl, sym, subst, ap, inl, inr, ◌∙◌}
use Rattle.std.specs.Prelude as prelude
use Rattle.std.specs.Prelude.{slice_get, false}
use Rattle.local_grid.specs.Outside.{OutsideCalls}
use Rattle.local_grid.specs.OutsideTurns.{Finishes, GoesPast}
use Rattle.carried_operations.specs.Fetches.{Begins, FetchState, IsFetched, fetch_calls}
use Rattle.carried_operations.specs.declared.range.SharePlace.{SharePlace}
use Rattle.carried_operations.specs.declared.range.ShareRange.{ShareRange}
use Rattle.carried_operations.specs.Fetched.{BeginsRead, FetchedState, IsCarried, IsReadOver, IsUnanswered, after_read, next_session}
use Rattle.carried_operations.specs.Fetched.IsUnanswered.{missing, unended}
use Rattle.carried_operations.proofs.FetchRuns.{carried}

module _ {G : Type 0} (calls : OutsideCalls G) (old : FetchedState G) (position offset long : ℕ) (place : SharePlace) (there : slice_get old.places position ≡ Some place)
    (begun : FetchState) (begins : Begins old.index (record { place = place; offset = offset; length = long }) old.session (calls.clock old.outside) begun) (ended : FetchState) (outside : G) where
  abbrev range : ShareRange
  range = record { place = place; offset = offset; length = long }

  begins_read : BeginsRead calls old position offset long begun
  begins_read = record { place = place; there = there; begins = begins }

  was_carried : Finishes fetch_calls calls 100000000 (record { operation = begun; outside = old.outside }) (record { operation = ended; outside = outside }) → IsCarried calls begun old.outside ended outside
  was_carried f = carried calls old.index range old.session (calls.clock old.outside) 100000000 (record { operation = begun; outside = old.outside }) (record { operation = ended; outside = outside }) begins f

  pub as_long : Finishes fetch_calls calls 100000000 (record { operation = begun; outside = old.outside }) (record { operation = ended; outside = outside }) → long ≡ ended.range.length
  as_long f = sym (ap (λ (r : ShareRange). r.length) ((was_carried f).range ∙ begins.range_is))

  pub was_read : Finishes fetch_calls calls 100000000 (record { operation = begun; outside = old.outside }) (record { operation = ended; outside = outside }) → (bytes : List ℕ) → IsFetched ended bytes
      → (new : FetchedState G) → new.outside ≡ outside → new ≡ after_read old outside → IsReadOver calls old position offset bytes new
  was_read f bytes fetched new same others =
      let known : long ≡ prelude.length bytes = as_long f ∙ sym fetched.long in
      subst (λ (n : FetchedState G). IsReadOver calls old position offset bytes n) (sym others) (record {
        begun = begun;
        begins = subst (λ (n : ℕ). BeginsRead calls old position offset n begun) known begins_read;
        ended = ended;
        carried = was_carried f;
        fetched = fetched;
        others = refl;
      })

  pub was_missing : Finishes fetch_calls calls 100000000 (record { operation = begun; outside = old.outside }) (record { operation = ended; outside = outside }) → ((bytes : List ℕ) → IsFetched ended bytes → ⊥)
      → (new : FetchedState G) → new.outside ≡ outside → IsUnanswered calls old position offset long new
  was_missing f none new same = missing begun ended begins_read (subst (λ (g : G). IsCarried calls begun old.outside ended g) (sym same) (was_carried f)) none

  pub was_unended : GoesPast fetch_calls calls 100000000 (record { operation = begun; outside = old.outside }) (record { operation = ended; outside = outside })
      → (new : FetchedState G) → new.outside ≡ outside → IsUnanswered calls old position offset long new
  was_unended past new same = unended begun ended begins_read (subst (λ (g : G). GoesPast fetch_calls calls 100000000 (record { operation = begun; outside = old.outside }) (record { operation = ended; outside = g })) (sym same) past)
