-- Lists of hash inputs that are of a kind without a clash.
use Rattle.std.proofs.Common.{ℕ, List, Contains}
use Rattle.tagged_hash.specs.Clash.{HasNoClash, HasNoClashIn}

-- where no two inputs of a kind clash, no two of a list of such inputs do
pub no_clash_of : (IsOne : List ℕ → Type 0) (inputs : List (List ℕ)) → HasNoClashIn IsOne
    → ((input : List ℕ) → Contains inputs input → IsOne input) → HasNoClash inputs
no_clash_of IsOne inputs none all first second here there same = none first second (all first here) (all second there) same
