-- The parts of a path.
use Rattle.std.specs.Prelude.{◌≡◌, ◌≢◌, ◌⊎◌, ℕ, List, [], ◌∷◌, ◌++◌, Contains}
use Rattle.std.specs.Path.{cur_dir, root_dir, slash}

-- A name is the last one of a path: it has no slash, and the path is the name alone, or ends with a
-- slash and the name.
pub record IsLastName (path name : List ℕ) : Type 0 where
  pub no_slash : ¬ Contains name slash
  pub ends : (path ≡ name) ⊎ ((folder : List ℕ) × (path ≡ folder ++ slash ∷ name))

-- A folder stands before the last slash of a path: `.` where there is none, and `/` where nothing
-- stands before it.
pub record IsFolderBefore (path folder : List ℕ) : Type 0 where
  pub name : List ℕ
  pub no_slash : ¬ Contains name slash
  pub ends : ((path ≡ name) × (folder ≡ cur_dir))
      ⊎ ((path ≡ slash ∷ name) × (folder ≡ root_dir))
      ⊎ ((path ≡ folder ++ slash ∷ name) × (folder ≢ []))
