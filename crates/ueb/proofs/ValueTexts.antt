-- Values and their texts.
use Rattle.std.proofs.Common.{◌≡◌, ◌≢◌, ℕ, List, ◌∷◌, ◌++◌, Option, Some, None, Bor, sym, ◌∙◌}
use Rattle.std.specs.Prelude.{MatchOption, IfSome, IfNone}
use Rattle.std.proofs.lemmas.List.{append_cancel_left}

-- what `strip_prefix` says, as two clauses
pub strip_found : (text prefix : List ℕ) (r : Option (Bor (List ℕ))) → MatchOption r ((rest : List ℕ) → text ≢ prefix ++ rest) (λ x. text ≡ prefix ++ x.now) → IfSome r (λ x. text ≡ prefix ++ x.now)
strip_found text prefix (Some x) m = m
strip_found text prefix None m = tt

pub strip_none : (text prefix : List ℕ) (r : Option (Bor (List ℕ))) → MatchOption r ((rest : List ℕ) → text ≢ prefix ++ rest) (λ x. text ≡ prefix ++ x.now) → IfNone r ((rest : List ℕ) → text ≢ prefix ++ rest)
strip_none text prefix (Some x) m = tt
strip_none text prefix None m = m

-- behind a front that is there, what is not behind it is not there
pub none_behind : (text front rest dash : List ℕ) (r : Option (Bor (List ℕ))) → text ≡ front ++ rest → IfNone r ((more : List ℕ) → rest ≢ dash ++ more) → IfNone r ((more : List ℕ) → text ≢ front ++ (dash ++ more))
none_behind text front rest dash (Some x) e none = tt
none_behind text front rest dash None e none = λ more t. none more (append_cancel_left front rest (dash ++ more) (sym e ∙ t))

pub behind_dash : (text front a b : List ℕ) → text ≡ front ++ 45 ∷ a → text ≡ front ++ 45 ∷ b → a ≡ b
behind_dash text front a b p q =
    let tails : 45 ∷ a ≡ 45 ∷ b = append_cancel_left front (45 ∷ a) (45 ∷ b) (sym p ∙ q) in
    cc
