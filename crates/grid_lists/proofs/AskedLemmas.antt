-- Words that have the numbers of a grid's ways.
use Rattle.std.proofs.Common.{ℕ, List, Option, None, Result, Ok, Err, IfErr, IfOk, inl, inr, refl}
use Rattle.std.proofs.lemmas.Result.{IfOk-weaker}
use Rattle.sources.specs.Opened.{Opened}
use Rattle.grid_faults.specs.declared.fault.Fault.{Fault}
use Rattle.grid_servers.specs.Grids.{GridCalls}
use Rattle.grid_telling.specs.declared.outcome.Failure.{Failure}
use Rattle.grid_telling.specs.declared.outcome.Failure.TheVariants as failures
use Rattle.grid_shares.specs.KeptWays.{IsAskedBy}
use Rattle.grid_words.specs.declared.words.PutWords.{PutWords}
use Rattle.grid_lists.specs.Puts.{IsPutByWays, IsPutCutOff, IsPutDone, IsPutUndone}

pub asked_done : {F S : Type 0} (gives : Opened F → ℕ → List ℕ → Opened F → Type 0) (calls : GridCalls S) (words asked : PutWords)
    (r : Result ℕ Failure) (before after : Option (List ℕ)) → IsAskedBy words asked
    → IfOk r (λ status. IsPutDone gives calls asked status before after)
    → IfOk r (λ status. IsPutByWays gives calls words status before after)
asked_done gives calls words asked r before after is done =
    IfOk-weaker r _ _ (λ status put. record { asked = asked; is = is; done = put }) done

pub asked_undone : {F S : Type 0} (gives : Opened F → ℕ → List ℕ → Opened F → Type 0) (calls : GridCalls S) (words asked : PutWords)
    (r : Result ℕ Failure) (before after : Option (List ℕ)) → IsAskedBy words asked
    → IfErr r (λ failure. IsPutCutOff gives calls asked failure before after)
    → IfErr r (λ failure. IsPutUndone gives calls words failure before after)
asked_undone gives calls words asked (Ok status) before after is undone = tt
asked_undone gives calls words asked (Err failure) before after is undone = record { asked = asked; is = is; cut = undone }

-- by a fault before the first file nothing is written
pub fault_undone : {F S : Type 0} (gives : Opened F → ℕ → List ℕ → Opened F → Type 0) (calls : GridCalls S) (words : PutWords) (fault : Fault) (out : Option (List ℕ))
    → IsPutUndone gives calls words (failures.Fault fault) out out
fault_undone gives calls words fault out = record {
  asked = words;
  is = record { ways = None; are = tt; others = refl; files = refl; numbers = refl };
  cut = inr (inl refl);
}
