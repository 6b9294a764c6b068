-- What is handed to a file of a name.
use Rattle.std.proofs.Common.{◌≡◌, ℕ, List, [], ◌∷◌, ◌++◌, Option, Some, None, Result, Ok, Err, OnOk, OnErr, IfErr, IfSome, ap, sym, subst, inr, ◌∙◌}
use Rattle.std.proofs.lemmas.List.{append_assoc}
use Rattle.grid_telling.specs.declared.outcome.Failure.{Failure}
use Rattle.grid_gets.specs.Files.{Adds, FileAct, IsHanded, MayBeHanded, ended, opened}
use Rattle.grid_gets.specs.Gets.{UnlessWriter}

-- ---- results

pub some_is : {A : Type 0} (o : Option A) (a : A) (P : A → Type 0) → o ≡ Some a → P a → IfSome o P
some_is o a P is p = subst (λ (x : Option _). IfSome x P) (sym is) p

pub some_each : {A : Type 0} (o : Option A) (P : A → Type 0) → ((a : A) → P a) → IfSome o P
some_each None P each = tt
some_each (Some a) P each = each a

pub err_then : {A E : Type 0} (r : Result A E) (P : Type 0) → P → OnErr r P
err_then (Ok a) P p = tt
err_then (Err e) P p = p

-- ---- what was done

adds_trans : (a b c : Option (List FileAct)) (xs ys : List FileAct) → Adds a b xs → Adds b c ys → Adds a c (xs ++ ys)
adds_trans None b c xs ys first second = tt
adds_trans (Some done) b c xs ys first second =
    let more : c ≡ Some ((done ++ xs) ++ ys) = subst (λ (x : Option (List FileAct)). Adds x c ys) first second in
    more ∙ ap Some (append_assoc done xs ys)

module _ (IsWhole IsBegun : Option (List ℕ) → Option (List ℕ) → Type 0) (path : List ℕ) (a b c : Option (List FileAct)) (held holds : Option (List ℕ)) (written : Result (Unit {0}) Failure)
    (first : Adds a b (opened path held ∷ [])) (second : Adds b c (ended holds written ∷ [])) (whole : OnOk written (IsWhole held holds)) (begun : IfErr written (λ f. UnlessWriter f (IsBegun held holds))) where
  handed : IsHanded IsWhole IsBegun path written a c
  handed = record { held = held; holds = holds; acts = adds_trans a b c (opened path held ∷ []) (ended holds written ∷ []) first second; whole = whole; begun = begun }

  pub handed_ok : (r : Result (Unit {0}) Failure) → OnOk r (written ≡ Ok tt) → OnOk r (IsHanded IsWhole IsBegun path (Ok tt) a c)
  handed_ok (Ok tt) is = subst (λ (outcome : Result (Unit {0}) Failure). IsHanded IsWhole IsBegun path outcome a c) is handed
  handed_ok (Err f) is = tt

  pub handed_err : (r : Result (Unit {0}) Failure) → OnErr r (MayBeHanded IsWhole IsBegun path a c)
  handed_err (Ok tt) = tt
  handed_err (Err f) = inr (written, handed)
