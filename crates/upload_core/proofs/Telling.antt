-- What a record tells of servers, request by request.
use Rattle.std.proofs.Common.{◌≡◌, ℕ, suc, ◌+◌, ◌<◌, ◌≤◌, Bool, true, false, cond, List, [], ◌∷◌, ◌++◌, append_assoc, drop, drop-cons, filter, get_or, length, map, ap, refl, sym, ◌∙◌, arith}
use Rattle.std.proofs.lemmas.List.{append-nil, drop_all}
use Rattle.request_record.specs.declared.requests.Request.{Request}
use Rattle.upload_core.specs.declared.rounds.Told.{Told}
use Rattle.upload_core.specs.Course.{server_where}
use Rattle.upload_core.specs.Rounds.{answered_as}
use Rattle.upload_core.specs.State.{Goal}
use Rattle.upload_core.specs.Transfers.{failed_servers}

-- the servers of the requests that pass a test
abbrev servers_where : (Request → Bool) → List Request → List ℕ
servers_where test es = map (λ (r : Request). r.server) (filter test es)

-- what is noted, with what the entries from a position on tell, is what all tell
pub record AreTold {E : Type 0} (request : E → Request) (g : Goal) (es : List E) (i : ℕ) (t : Told) : Type 0 where
  pub failed : t.failed.items ++ failed_servers g (map request (drop i es)) ≡ failed_servers g (map request es)
  pub taking : t.taking.items ++ answered_as false (map request (drop i es)) ≡ answered_as false (map request es)
  pub closed : t.closed.items ++ answered_as true (map request (drop i es)) ≡ answered_as true (map request es)

first_told : (test : Request → Bool) (r : Request) (rs : List Request) → servers_where test (r ∷ rs) ≡ server_where test r ++ servers_where test rs
first_told test r rs = by (test r)
  where
    by : (b : Bool) → map (λ (x : Request). x.server) (cond b (r ∷ filter test rs) (filter test rs)) ≡ cond b (r.server ∷ []) [] ++ servers_where test rs
    by true = refl
    by false = refl

module _ {E : Type 0} (request : E → Request) (test : Request → Bool) where
  pub told_on : (es : List E) (i : ℕ) (e : E) (old new : List ℕ) → i < length es → e ≡ get_or es i e → new ≡ old ++ server_where test (request e)
      → old ++ servers_where test (map request (drop i es)) ≡ servers_where test (map request es) → new ++ servers_where test (map request (drop (i + 1) es)) ≡ servers_where test (map request es)
  told_on es i e old new lt is more before =
      let next : suc i ≡ i + 1 = omega arith in
      let first : drop i es ≡ e ∷ drop (i + 1) es = drop-cons es i e lt ∙ ap (λ (x : E). x ∷ drop (suc i) es) (sym is) ∙ ap (λ (n : ℕ). e ∷ drop n es) next in
      ap (λ (l : List ℕ). l ++ servers_where test (map request (drop (i + 1) es))) more
      ∙ append_assoc old (server_where test (request e)) (servers_where test (map request (drop (i + 1) es)))
      ∙ ap (λ (l : List ℕ). old ++ l) (sym (first_told test (request e) (map request (drop (i + 1) es))))
      ∙ ap (λ (l : List E). old ++ servers_where test (map request l)) (sym first)
      ∙ before

  pub told_all : (es : List E) (i : ℕ) (told : List ℕ) → length es ≤ i → told ++ servers_where test (map request (drop i es)) ≡ servers_where test (map request es) → told ≡ servers_where test (map request es)
  told_all es i told end all =
      sym (append-nil told) ∙ ap (λ (l : List E). told ++ servers_where test (map request l)) (sym (drop_all i es end)) ∙ all
