use Rattle.std.proofs.Common.{◌≡◌, ℕ, List, [], ◌∷◌, ◌++◌, length, inl, inr, refl, ap, sym, ◌∙◌}
use Rattle.std.proofs.lemmas.Bool.{eqb-false, eqb-true}
use Rattle.std.specs.Path.{slash}
use Rattle.std.proofs.lemmas.List.{nil_from_length}
use Rattle.user_files.proofs.Slashes.{cut, none_has}
use Rattle.user_files.proofs.paths.folder_before.Goals as goal

pub returns-in-Some : goal.returns-in-Some
returns-in-Some c =
    let folder : List ℕ = c.in-Some.folder.now in
    let name : List ℕ = c.in-Some.field-0-1.now in
    let split = c.in-Some.ensures.cases in
    let is = cut c.args.path.now folder name split.0 split.1 split.2 split.3 split.4 split.7 in
    let none : folder ≡ [] = nil_from_length folder (eqb-true (length folder) 0 (sym c.if-is_empty.ensures)) in
    record {
      name = name;
      no_slash = is.no_slash;
      ends = inr (inl (is.is ∙ ap (λ (f : List ℕ). f ++ slash ∷ name) none, refl));
    }

pub returns-in-Some-2 : goal.returns-in-Some-2
returns-in-Some-2 c =
    let folder : List ℕ = c.in-Some.folder.now in
    let name : List ℕ = c.in-Some.field-0-1.now in
    let split = c.in-Some.ensures.cases in
    let is = cut c.args.path.now folder name split.0 split.1 split.2 split.3 split.4 split.7 in
    record {
      name = name;
      no_slash = is.no_slash;
      ends = inr (inr (is.is, λ none. eqb-false (length folder) 0 (sym c.if-is_empty.ensures) (ap length none)));
    }

pub returns-in-None : goal.returns-in-None
returns-in-None c = record { name = c.args.path.now; no_slash = none_has c.args.path.now c.in-None.ensures.cases; ends = inl (refl, refl) }
