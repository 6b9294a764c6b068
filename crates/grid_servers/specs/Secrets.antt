-- Secrets in files.
use Rattle.std.specs.Prelude.{◌≡◌, ◌≢◌, ◌⊎◌, ℕ, List, [], ◌∷◌, ◌++◌}

-- one line feed stands behind the secret, or the text ends in none and is the secret
abbrev pub IsTextOf : List ℕ → List ℕ → Type 0
IsTextOf secret text = (text ≡ secret ++ (10 ∷ []))
    ⊎ ((text ≡ secret) × ((before : List ℕ) → text ≢ before ++ (10 ∷ [])))
