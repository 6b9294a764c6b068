-- What a status tells of the servers that were found.
use Rattle.std.proofs.Common.{◌≡◌, ◌<◌, ◌+◌, ℕ, List, [], ◌∷◌, ◌++◌, Result, Ok, Err, IfOk, IfSome, length, map, nat_eq, take, sym, ap, ◌∙◌, subst}
use Rattle.std.specs.Prelude.{slice_index_or}
use Rattle.std.specs.List.{IsDistinct}
use Rattle.std.proofs.lemmas.List.{length-map, map-append, take_more}
use Rattle.grid_faults.specs.declared.fault.Fault.{Fault}
use Rattle.grid_marks.specs.Marks.{IsGrids}
use Rattle.grid_rules.specs.Ways.{AreWays}
use Rattle.grid_shares.specs.declared.Outcome.{Outcome}
use Rattle.grid_stores.specs.declared.states.GridState.{GridState}
use Rattle.grid_stores.specs.declared.states.ServerState.{ServerState}
use Rattle.grid_stores.specs.States.{status_of}
use Rattle.grid_stores.specs.Status.{IsStatusBy, status_text}
use Rattle.grid_words.specs.declared.words.StatusWords.{StatusWords}

-- one server more
pub next_found : (servers : List ℕ) (i : ℕ) (found more : List ServerState) (one : ServerState) → i < length servers → more ≡ found ++ one ∷ [] → one.server ≡ slice_index_or servers i 0
    → map (λ (s : ServerState). s.server) found ≡ take i servers → map (λ (s : ServerState). s.server) more ≡ take (i + 1) servers
next_found servers i found more one within is of was =
    ap (map (λ (s : ServerState). s.server)) is ∙ map-append (λ (s : ServerState). s.server) found (one ∷ []) ∙ ap (λ (xs : List ℕ). xs ++ one.server ∷ []) was
    ∙ ap (λ (x : ℕ). take i servers ++ x ∷ []) of ∙ sym (take_more servers i 0 within)

-- what was told of all of them
pub shown : (words : StatusWords) (found : GridState) (items servers : List ℕ) (r : Result Outcome Fault) → servers ≡ items → 0 < length items → IsDistinct nat_eq items
    → map (λ (s : ServerState). s.server) found.servers.items ≡ servers → IfSome found.mark IsGrids → IfSome found.ways AreWays → IfOk r (λ outcome. outcome.text.items ≡ status_text words.json found)
    → IfOk r (λ outcome. outcome.status ≡ status_of found.servers.items) → IfOk r (IsStatusBy words)
shown words found items servers (Err fault) same some distinct of mark ways text status = tt
shown words found items servers (Ok outcome) same some distinct of mark ways text status = record {
  found = found;
  some = subst (λ (n : ℕ). 0 < n) (sym (ap length (of ∙ same)) ∙ length-map found.servers.items (λ (s : ServerState). s.server)) some;
  distinct = subst (IsDistinct nat_eq) (sym (of ∙ same)) distinct;
  mark = mark;
  ways = ways;
  text = text;
  status = status;
}
